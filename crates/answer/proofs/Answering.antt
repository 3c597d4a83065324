-- The query on the entries: what lookups and joining say of the answer.
use mathlib.Core.Path.{◌≡◌, refl, sym, ap, ◌∙◌}
use mathlib.Core.Bool.{Bool, true, false}
use mathlib.Core.List.{List}
use Prim.Native.Nat.{ℕ, ◌+◌, ◌*◌, ◌<◌}
use native.Mathlib.Nat.{le_refl}
use native.Mathlib.Omega.{arith}
use lib.ListN.{get_or}
use Rattle.model.specs.Limits.{most_vertices, most_longest, hub_unit}
use Rattle.model.specs.Lists.{◌∈◌, mem?}
use Rattle.model.specs.Patterns.{Keyed, code}
use Rattle.model.specs.Entries.{entry_of, out_entry, in_entry}
use Rattle.model.specs.Query.{Answers, target, source, shared}
use Rattle.model.specs.Computed.Query.{hub_of, code_of}
use Rattle.model.proofs.Tests.{test_true, test_false, test_yields, test_fails, test_mem}
use Rattle.model.proofs.Lists.{get_d_in, in_get_d, rising_lt}
use Rattle.model.proofs.Patterns.{code_below}
use Rattle.model.proofs.Query.{test_answers}
use Rattle.model.proofs.IndexMemory.{test_entry}
use Rattle.answer.specs.Parts.{low_of, HubRising, ListOf, Shared, Joins}
use Rattle.answer.specs.declared.Side.{Side}
use Rattle.answer.specs.declared.Side.TheVariants.{Out, In}
use Rattle.answer.specs.Saying.{Indexed, Says}

-- the entries of one owner rise by hub and code
pub list_rises : {index xs : List ℕ} (side : Side) (owner : ℕ) → ListOf index side owner xs → HubRising xs
list_rises {xs = xs} side owner o = record {
  rises = λ p q h k.
      omega (arith, rising_lt o.rises p q h k, o.each (get_or xs p 0) (get_d_in xs p (omega arith)), o.each (get_or xs q 0) (get_d_in xs q k));
}

module _ (index l : List ℕ) (s t w : ℕ) (is : w ≡ code l) where
  pub says_target : mem? (entry_of 0 s t w) index ≡ true → Says index l s t true
  says_target e = record { is = λ v k _ _ _ _. sym (test_true (test_answers v index l s t) (target (rw is at (test_yields (test_mem (entry_of 0 s t w) index) e)))) }

  pub says_source : mem? (entry_of 1 t s w) index ≡ true → Says index l s t true
  says_source e = record { is = λ v k _ _ _ _. sym (test_true (test_answers v index l s t) (source (rw is at (test_yields (test_mem (entry_of 1 t s w) index) e)))) }

  module _ (keyed : Keyed most_longest l) {out into : List ℕ} (o : ListOf index Out s out) (i : ListOf index In t into) where
    -- a shared hub is a vertex
    share_out : {v k : ℕ} → Indexed v k index → Shared out into w → Answers v index l s t
    share_out {v} {k} x h =
        let m = h.match in
        let a = o.each (get_or out h.p 0) (get_d_in out h.p h.p_inside) in
        let b = i.each (get_or into h.q 0) (get_d_in into h.q h.q_inside) in
        let u = hub_of (get_or out h.p 0) in
        let low : low_of (get_or out h.p 0) ≡ u * hub_unit + code l = omega (arith, m.coded) in
        let e : get_or out h.p 0 ≡ out_entry s u l = omega (arith, low, a.from, a.to) in
        let f : get_or into h.q 0 ≡ in_entry t u l = omega (arith, sym m.same ∙ low, b.from, b.to) in
        shared u (test_yields (test_entry v k (get_or out h.p 0)) (x.valid (get_or out h.p 0) a.stands)).hub (rw e at a.stands) (rw f at b.stands)

    share_in : (u : ℕ) → u < most_vertices → out_entry s u l ∈ index → in_entry t u l ∈ index → Shared out into w
    share_in u h m n =
        let small = code_below (le_refl most_longest) keyed in
        let p = in_get_d (o.all (out_entry s u l) (record { stands = m; from = omega arith; to = omega arith })) in
        let q = in_get_d (i.all (in_entry t u l) (record { stands = n; from = omega arith; to = omega arith })) in
        let e : low_of (out_entry s u l) ≡ u * hub_unit + code l = omega arith in
        let f : low_of (in_entry t u l) ≡ u * hub_unit + code l = omega arith in
        let g : code_of (out_entry s u l) ≡ w = omega arith in
        record {
          p = p.i;
          q = q.i;
          p_inside = p.inside;
          q_inside = q.inside;
          match = record { same = ap low_of p.is ∙ e ∙ sym (ap low_of q.is ∙ f); coded = ap code_of p.is ∙ g };
        }

    pub says_join : {r : Bool} → mem? (entry_of 0 s t w) index ≡ false → mem? (entry_of 1 t s w) index ≡ false → Joins out into w r → Says index l s t r
    says_join {r = true} e f j = record { is = λ v k _ _ _ x. sym (test_true (test_answers v index l s t) (share_out x (j.yields refl))) }
    says_join {r = false} e f j = record {
      is = λ v k small _ _ x. sym (test_false (test_answers v index l s t) (λ h. elim h [
        | target m ↦ test_fails (test_mem (entry_of 0 s t w) index) e (rw is m)
        | source m ↦ test_fails (test_mem (entry_of 1 t s w) index) f (rw is m)
        | shared u b m n ↦ j.misses refl (share_in u (omega arith) m n)
      ]));
    }
