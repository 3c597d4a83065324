-- The search's queue: each node has the first walk to its state, and all walks before a cursor are looked at.
use mathlib.Core.Path.{◌≡◌, refl, sym, ap, ap₂, ◌∙◌, subst}
use mathlib.Core.Logic.{◌⊎◌, ⊎_elim}
use mathlib.Core.List.Memᴰ
use mathlib.Core.List.{List, [], ◌∷◌, ◌++◌}
use Prim.Native.Nat.{ℕ, suc, ◌≤◌, ◌<◌}
use native.Mathlib.Nat.{eq-or-lt_of_le, le_of_suc-le-suc}
use native.Mathlib.Decide.{dec_lt}
use native.Mathlib.Omega.{arith}
use lib.ListN.{length}
use Rattle.model.specs.Edges.{Graph}
use Rattle.model.specs.States.{state}
use Rattle.model.specs.Computed.Routes.{ahead, Node, node_by, start_node}
use Rattle.model.specs.Queue.{StepBy, ◌≺◌, early, last, ◌≼◌, same, before, WalkBack, start, on, ◌∈ⁿ◌, Queued, Searched}
use Rattle.model.proofs.Before.{lt_irrefl, lt_trans, le_lt_trans, Compared, less, alike, more, three, longer, cons_le, lt_cons}
use Rattle.model.proofs.WalksBack.{back_same}

pub met_later : {nodes : List Node} {z : ℕ} (ms : List Node) → Queued nodes z → Queued (nodes ++ ms) z
met_later ms m = record { node = m.node; among = Memᴰ.append_left ms m.among; is = m.is; long = m.long }

module _ (g : Graph) (l : List ℕ) (s : ℕ) where
  -- a node at z that is no later than q
  record HeldFirst (nodes : List Node) (z : ℕ) (q : List ℕ) : Type 0 where
    node : Node
    among : node ∈ⁿ nodes
    is : node.at ≡ z
    first : node.back ≼ q

  step_met : {nodes : List Node} {c : List ℕ} → Searched g l s nodes c → {a x z : ℕ} {q : List ℕ} → HeldFirst nodes a q → StepBy g l a x z → (x ∷ q) ≺ c → Queued nodes z
  step_met h {a} {x} {z} r k b = h.closed r.node r.among x z (subst (λ (y : ℕ). StepBy g l y x z) (sym r.is) k) (le_lt_trans (cons_le x r.first) b)

  met_held : {nodes : List Node} {c : List ℕ} → Searched g l s nodes c → {z : ℕ} {q : List ℕ} → WalkBack g l s z q → 1 ≤ length q → Queued nodes z → HeldFirst nodes z q
  met_held h {z} {q} t k m = record { node = m.node; among = m.among; is = m.is; first = h.firsts.least m.node m.among m.long q (subst (λ (y : ℕ). WalkBack g l s y q) (sym m.is) t) k }

  -- a walk before the cursor ends where a first walk does
  held : {nodes : List Node} {c : List ℕ} → Searched g l s nodes c → {z : ℕ} {q : List ℕ} → WalkBack g l s z q → q ≺ c → HeldFirst nodes z q
  held h start b = record { node = start_node s; among = h.firsts.rooted; is = refl; first = same refl }
  held h (on {x = x} {p = p} t k) b = met_held h (on t k) (omega arith) (step_met h (held h t (lt_trans (longer x p) b)) k b)

  -- in particular its state is met
  pub covered : {nodes : List Node} {c : List ℕ} → Searched g l s nodes c → {z : ℕ} {q : List ℕ} → WalkBack g l s z q → 1 ≤ length q → q ≺ c → Queued nodes z
  covered h start k b = absurd (omega arith)
  covered h (on {x = x} {p = p} t e) k b = step_met h (held h t (lt_trans (longer x p) b)) e b

  -- the cursor moves on where nothing is left out
  pub advance : {nodes : List Node} {c d : List ℕ} → Searched g l s nodes c
      → ((n : Node) → n ∈ⁿ nodes → (x z : ℕ) → StepBy g l n.at x z → (x ∷ n.back) ≺ d → ((x ∷ n.back) ≺ c → ⊥) → Queued nodes z) → Searched g l s nodes d
  advance {nodes} {c} {d} h f = record {
    firsts = h.firsts;
    closed = λ n m x z k b. go n m x z k b (three (x ∷ n.back) c);
  }
    where
      go : (n : Node) → n ∈ⁿ nodes → (x z : ℕ) → StepBy g l n.at x z → (x ∷ n.back) ≺ d → Compared (x ∷ n.back) c → Queued nodes z
      go n m x z k b (less a) = h.closed n m x z k a
      go n m x z k b (alike e) = f n m x z k b (λ a. lt_irrefl a e)
      go n m x z k b (more a) = f n m x z k b (λ u. lt_irrefl (lt_trans a u) refl)

  module _ {nodes : List Node} (p : Node) (pm : p ∈ⁿ nodes) where
    -- the steps at node p from edge b up to edge e
    pub skip_to : {b e : ℕ} → Searched g l s nodes (b ∷ p.back) → b ≤ e → ((x z : ℕ) → b ≤ x → x < e → StepBy g l p.at x z → Queued nodes z) → Searched g l s nodes (e ∷ p.back)
    skip_to {b} {e} h le f = advance h (λ n m x z k u v. ⊎_elim (λ i. absurd (v (early i)))
        (λ i. f x z (elim (dec_lt x b) [ yes j ↦ absurd (v (last i.0 j)) | no j ↦ omega arith ]) i.1
        (subst (λ (y : ℕ). StepBy g l y x z) (back_same (h.firsts.walks n m) (h.firsts.walks p pm) i.0) k)) (lt_cons u))

    -- a step to a state that is met
    pub step_old : {x z : ℕ} → Searched g l s nodes (x ∷ p.back) → StepBy g l p.at x z → Queued nodes z → Searched g l s nodes (suc x ∷ p.back)
    step_old {x} {z} h k m = skip_to h (omega arith) (λ y w a b j. let e : y ≡ x = omega arith in subst (Queued nodes) (k.is ∙ ap (ahead l p.at) (sym e) ∙ sym j.is) m)

    -- a step to a state that is not
    pub step_new : {x z : ℕ} → Searched g l s nodes (x ∷ p.back) → StepBy g l p.at x z → (Queued nodes z → ⊥) → Searched g l s (nodes ++ node_by l p x ∷ []) (suc x ∷ p.back)
    step_new {x} {z} h k d = record {
      firsts = record {
        rooted = Memᴰ.append_left _ h.firsts.rooted;
        walks = λ n m. ⊎_elim (h.firsts.walks n) (λ i. subst (λ (m : Node). WalkBack g l s m.at m.back) (sym (Memᴰ.eq_of_singleton i)) tr) (Memᴰ.append_cases nodes m);
        least = λ n m b q t c. ⊎_elim (λ i. h.firsts.least n i b q t c) (λ i. let e : n ≡ node_by l p x = Memᴰ.eq_of_singleton i in rw e (first q (rw e at t) c)) (Memᴰ.append_cases nodes m);
      };
      closed = λ n m y w j b. ⊎_elim (λ i. older n i y w j b) (λ i. let e : n ≡ node_by l p x = Memᴰ.eq_of_singleton i in absurd (later y (rw e at b))) (Memᴰ.append_cases nodes m);
    }
      where
        tr : WalkBack g l s (ahead l p.at x) (x ∷ p.back)
        tr = subst (λ (y : ℕ). WalkBack g l s y (x ∷ p.back)) k.is (on (h.firsts.walks p pm) k)

        first : (q : List ℕ) → WalkBack g l s (ahead l p.at x) q → 1 ≤ length q → (x ∷ p.back) ≼ q
        first q t c = go (three (x ∷ p.back) q)
          where
            go : Compared (x ∷ p.back) q → (x ∷ p.back) ≼ q
            go (less a) = before a
            go (alike e) = same e
            go (more a) = absurd (d (covered h (subst (λ (y : ℕ). WalkBack g l s y q) (sym k.is) t) c a))

        now : Queued (nodes ++ node_by l p x ∷ []) z
        now = record { node = node_by l p x; among = Memᴰ.append_right nodes (Memᴰ.head refl); is = sym k.is; long = omega arith }

        older : (n : Node) → n ∈ⁿ nodes → (y w : ℕ) → StepBy g l n.at y w → (y ∷ n.back) ≺ (suc x ∷ p.back) → Queued (nodes ++ node_by l p x ∷ []) w
        older n m y w j b = ⊎_elim
            (λ i. met_later _ (h.closed n m y w j (early i)))
            (λ i. ⊎_elim
            (λ e. let u : y ≡ x = omega arith in subst (Queued (nodes ++ node_by l p x ∷ [])) (k.is ∙ ap₂ (λ (a : ℕ) (y : ℕ). ahead l a y) (sym (back_same (h.firsts.walks n m) (h.firsts.walks p pm) i.0)) (sym u) ∙ sym j.is) now)
            (λ e. met_later _ (h.closed n m y w j (last i.0 (le_of_suc-le-suc e))))
            (eq-or-lt_of_le i.1)) (lt_cons b)

        later : (y : ℕ) → (y ∷ x ∷ p.back) ≺ (suc x ∷ p.back) → ⊥
        later y b = ⊎_elim (λ i. lt_irrefl (lt_trans i (longer x p.back)) refl) (λ i. lt_irrefl (longer x p.back) (sym i.0)) (lt_cons b)
