-- The entries of one pattern by their starts: each start by itself, and those whose walks are one step.
use mathlib.Core.Path.{◌≡◌, sym, ap, ◌∙◌}
use mathlib.Core.Logic.{◌↔◌}
use Prim.Native.Nat.{ℕ, ◌≤◌, ◌<◌}
use native.Mathlib.Decide.{dec_lt}
use native.Mathlib.Omega.{arith}
use borrow.Author.Tests.{lt-ltb, le-ltb}
use Rattle.model.specs.Limits.{most_vertices, hub_unit}
use Rattle.model.specs.Entries.{entry_of}
use Rattle.model.specs.Computed.Query.{side_of, owner_of, hub_of}
use Rattle.model.specs.Build.Hubs.{EntryBy, Plus, one, more, joining, Direct, Joined, Onward}
use Rattle.model.proofs.Renumber.{entry_fields}
use Rattle.model.proofs.Plus.{plus_onward}

-- ---- which of the two owns the entry

pub joining_in : (c s t : ℕ) → s < t → joining c s t ≡ entry_of 1 t s c
joining_in c s t h = rw (lt-ltb s t h)

pub joining_out : (c s t : ℕ) → t ≤ s → joining c s t ≡ entry_of 0 s t c
joining_out c s t h = rw (le-ltb s t h)

-- and the entry tells the two apart
pub joining_same : (c s t s' t' : ℕ) → c < hub_unit → s < most_vertices → t < most_vertices → s' < most_vertices → t' < most_vertices
    → joining c s t ≡ joining c s' t' → (s ≡ s') × (t ≡ t')
joining_same c s t s' t' h a b a' b' e = elim (dec_lt s t) [
  | yes l ↦ elim (dec_lt s' t') [
    | yes l' ↦
        let q = sym (joining_in c s t l) ∙ e ∙ joining_in c s' t' l' in
        let (_, o, u, _) = entry_fields 1 t s c b a h in
        let (_, o', u', _) = entry_fields 1 t' s' c b' a' h in
        (sym u ∙ ap hub_of q ∙ u', sym o ∙ ap owner_of q ∙ o')
    | no l' ↦
        let q = sym (joining_in c s t l) ∙ e ∙ joining_out c s' t' (omega arith) in
        absurd (sides (sym (entry_fields 1 t s c b a h).0 ∙ ap side_of q ∙ (entry_fields 0 s' t' c a' b' h).0))
  ]
  | no l ↦ elim (dec_lt s' t') [
    | yes l' ↦
        let q = sym (joining_out c s t (omega arith)) ∙ e ∙ joining_in c s' t' l' in
        absurd (sides (sym (sym (entry_fields 0 s t c a b h).0 ∙ ap side_of q ∙ (entry_fields 1 t' s' c b' a' h).0)))
    | no l' ↦
        let q = sym (joining_out c s t (omega arith)) ∙ e ∙ joining_out c s' t' (omega arith) in
        let (_, o, u, _) = entry_fields 0 s t c a b h in
        let (_, o', u', _) = entry_fields 0 s' t' c a' b' h in
        (sym o ∙ ap owner_of q ∙ o', sym u ∙ ap hub_of q ∙ u')
  ]
]
  where
    sides : ◌≡◌ {A = ℕ} 1 0 → ⊥
    sides q = omega (arith, q)

-- ---- every entry has a start

module _ {R : ℕ → ℕ → Type 0} {c e : ℕ} where
  pub entry_joined : EntryBy R c e → (s : ℕ) × Joined R c s e
  entry_joined (EntryBy.out p) = (
    p.owner,
    record {
      end = p.hub;
      related = p.related;
      alone = λ v a b i j. p.alone v b j i;
      is = p.is ∙ sym (joining_out c p.owner p.hub (omega (arith, p.late)));
    },
  )
  entry_joined (EntryBy.into p) = (
    p.hub,
    record {
      end = p.owner;
      related = p.related;
      alone = λ v a b i j. p.alone v a i j;
      is = p.is ∙ sym (joining_in c p.hub p.owner (omega (arith, p.late)));
    },
  )

  pub joined_entry : {s : ℕ} → Joined R c s e → EntryBy R c e
  joined_entry {s} j = elim (dec_lt s j.end) [
    | yes h ↦ EntryBy.into (record {
      hub = s;
      owner = j.end;
      related = j.related;
      late = omega arith;
      alone = λ v a i k. j.alone v a (omega arith) i k;
      is = j.is ∙ joining_in c s j.end h;
    })
    | no h ↦ EntryBy.out (record {
      hub = j.end;
      owner = s;
      related = j.related;
      late = omega arith;
      alone = λ v a i k. j.alone v (omega arith) a k i;
      is = j.is ∙ joining_out c s j.end (omega arith);
    })
  ]

pub joined_as : {R S : ℕ → ℕ → Type 0} {c s e : ℕ} → ((a b : ℕ) → R a b ↔ S a b) → Joined R c s e → Joined S c s e
joined_as f j =
    record { end = j.end; related = (f _ _).0 j.related; alone = λ v a b i k. j.alone v a b ((f _ _).1 i) ((f _ _).1 k); is = j.is }

-- ---- a start that no second step follows: every walk from it is one step, and each of its steps has its entry

module _ {R : ℕ → ℕ → Type 0} {s : ℕ} (last : Onward R s → ⊥) where
  pub one_step : {t : ℕ} → Plus R s t → R s t
  one_step (one r) = r
  one_step (more r q) = absurd (last (plus_onward (one r) q))

  pub direct_joined : {c e : ℕ} → Direct R c s e → Joined (Plus R) c s e
  direct_joined d = record { end = d.end; related = one d.related; alone = λ v _ _ i k. last (plus_onward i k); is = d.is }

  pub joined_direct : {c e : ℕ} → Joined (Plus R) c s e → Direct R c s e
  joined_direct j = record { end = j.end; related = one_step j.related; is = j.is }
