-- How work memory grows: by nothing, by one state, and by one set of states after another.
--
use mathlib.Core.Path.{◌≡◌, refl, sym, ap, ◌∙◌}
use mathlib.Core.List.{List}
use mathlib.Core.Logic.{◌⊎◌, inl, inr, ⊎_elim}
use Prim.Native.Nat.{ℕ, suc, ◌+◌, ◌≤◌, ◌<◌}
use native.Mathlib.Nat.{le_refl, le_trans, lt_of_lt_of_le}
use native.Mathlib.Decide.{dec_lt, ℕ_discrete}
use native.Mathlib.Omega.{arith}
use lib.ListN.{get_or, set, length-set}
use lib.Seq.{get_or-set_same, get_or-set_other}
use Rattle.model.specs.Computed.Levels.{most_states}
use Rattle.frontier.specs.Work.{queue, Room, At, Grown}
use Rattle.frontier.proofs.Marks.{marks_set, marks_far, marks_le}

-- a queue that is not full: a mark is missing
pub room_left : (w : List ℕ) (n y : ℕ) → Room w n → y < most_states → (get_or w y 0 ≡ 1 → ⊥) → n ≤ most_states
room_left w n y r h m = omega (arith, marks_set w y h (omega arith) m, marks_le (set w y 1), r.count, r.long)

pub room_top : (w : List ℕ) (n : ℕ) → Room w n → n ≤ suc most_states
room_top w n r = omega (arith, marks_le w, r.count)

pub grown_none : (w : List ℕ) (n : ℕ) → Grown w n w n (λ y. ⊥)
grown_none w n = record {
  len = refl;
  more = le_refl n;
  room = λ r. r;
  kept = λ k h. refl;
  still = λ y h e. e;
  marked = λ y h p. absurd p;
  only = λ y h e. inl e;
  small = λ k h g. absurd (omega arith);
  new = λ k h g e. omega arith;
  by = λ k h g. omega arith;
  found = λ y h p n. absurd p;
}

-- the state y is marked already
pub grown_old : (w : List ℕ) (n y : ℕ) → get_or w y 0 ≡ 1 → Grown w n w n (λ x. x ≡ y)
grown_old w n y m = record {
  len = refl;
  more = le_refl n;
  room = λ r. r;
  kept = λ k h. refl;
  still = λ x h e. e;
  marked = λ x h p. ap (λ (z : ℕ). get_or w z 0) p ∙ m;
  only = λ x h e. inl e;
  small = λ k h g. absurd (omega arith);
  new = λ k h g e. omega arith;
  by = λ k h g. absurd (omega arith);
  found = λ x h p u. absurd (u (ap (λ (z : ℕ). get_or w z 0) p ∙ m));
}

module _ (w : List ℕ) (n y : ℕ) (r : Room w n) (h : y < most_states) (m : get_or w y 0 ≡ 1 → ⊥) where
  -- work memory once y is marked and queued
  abbrev put : List ℕ
  put = set (set w y 1) (most_states + n) y

  fits : n ≤ most_states
  fits = room_left w n y r h m

  at_mark : (x : ℕ) → x < most_states → get_or put x 0 ≡ get_or (set w y 1) x 0
  at_mark x g = get_or-set_other (set w y 1) (most_states + n) x y 0 (omega arith)

  at_queue : (k : ℕ) → k < n → queue put k ≡ queue w k
  at_queue k g =
      get_or-set_other (set w y 1) (most_states + n) (most_states + k) y 0 (omega arith) ∙ get_or-set_other w y (most_states + k) 1 0 (omega arith)

  at_end : queue put n ≡ y
  at_end = get_or-set_same (set w y 1) (most_states + n) y 0 (omega (arith, length-set w y 1, r.long, fits))

  mark_same : get_or put y 0 ≡ 1
  mark_same = at_mark y h ∙ get_or-set_same w y 1 0 (omega (arith, r.long))

  mark_other : (x : ℕ) → x < most_states → (x ≡ y → ⊥) → get_or put x 0 ≡ get_or w x 0
  mark_other x g d = at_mark x g ∙ get_or-set_other w y x 1 0 d

  last : (k : ℕ) → n ≤ k → k < n + 1 → k ≡ n
  last k a b = omega arith

  pub grown_new : Grown w n put (n + 1) (λ x. x ≡ y)
  grown_new = record {
    len = length-set (set w y 1) (most_states + n) y ∙ length-set w y 1;
    more = omega arith;
    room = λ r. record {
      long = omega (arith, length-set (set w y 1) (most_states + n) y, length-set w y 1, r.long);
      count = omega (arith, marks_far (set w y 1) (most_states + n) y (omega arith), marks_set w y h (omega (arith, r.long)) m, r.count);
    };
    kept = at_queue;
    still = λ x g e. elim (ℕ_discrete x y) [ yes q ↦ ap (λ (z : ℕ). get_or put z 0) q ∙ mark_same | no d ↦ mark_other x g d ∙ e ];
    marked = λ x g p. ap (λ (z : ℕ). get_or put z 0) p ∙ mark_same;
    only = λ x g e. elim (ℕ_discrete x y) [ yes q ↦ inr q | no d ↦ inl (sym (mark_other x g d) ∙ e) ];
    small = λ k a b. rw (last k a b, at_end) h;
    new = λ k a b e. m (rw (last k a b, at_end) at e);
    by = λ k a b. rw (last k a b) at_end;
    found = λ x g p u. record { k = n; from = le_refl n; to = omega arith; is = at_end ∙ sym p };
  }

-- P's states and then Q's
module _ {w : List ℕ} {n : ℕ} {w₁ : List ℕ} {n₁ : ℕ} {w₂ : List ℕ} {n₂ : ℕ} {P Q : ℕ → Type 0} (g : Grown w n w₁ n₁ P) (h : Grown w₁ n₁ w₂ n₂ Q) where
  early : (y : ℕ) → At w₁ n n₁ y → At w₂ n n₂ y
  early y a = record { k = a.k; from = a.from; to = lt_of_lt_of_le a.to h.more; is = h.kept a.k a.to ∙ a.is }

  late : (y : ℕ) → At w₂ n₁ n₂ y → At w₂ n n₂ y
  late y a = record { k = a.k; from = le_trans g.more a.from; to = a.to; is = a.is }

  pub grown_then : Grown w n w₂ n₂ (λ y. P y ⊎ Q y)
  grown_then = record {
    len = h.len ∙ g.len;
    more = le_trans g.more h.more;
    room = λ r. h.room (g.room r);
    kept = λ k l. h.kept k (lt_of_lt_of_le l g.more) ∙ g.kept k l;
    still = λ y l e. h.still y l (g.still y l e);
    marked = λ y l p. ⊎_elim (λ a. h.still y l (g.marked y l a)) (λ b. h.marked y l b) p;
    only = λ y l e. ⊎_elim (λ a. ⊎_elim (λ b. inl b) (λ b. inr (inl b)) (g.only y l a)) (λ b. inr (inr b)) (h.only y l e);
    small = λ k a b. elim (dec_lt k n₁) [ yes l ↦ rw (h.kept k l) (g.small k a l) | no l ↦ h.small k (omega arith) b ];
    new = λ k a b e. elim (dec_lt k n₁) [
      | yes l ↦ g.new k a l (rw (h.kept k l) at e)
      | no l ↦ h.new k (omega arith) b (g.still (queue w₂ k) (h.small k (omega arith) b) e)
    ];
    by = λ k a b. elim (dec_lt k n₁) [ yes l ↦ inl (rw (h.kept k l) (g.by k a l)) | no l ↦ inr (h.by k (omega arith) b) ];
    found = λ y l p u. ⊎_elim (λ a. early y (g.found y l a u)) (λ b. elim (ℕ_discrete (get_or w₁ y 0) 1) [
      | yes e ↦ ⊎_elim (λ c. absurd (u c)) (λ c. early y (g.found y l c u)) (g.only y l e)
      | no d ↦ late y (h.found y l b d)
    ]) p;
  }

-- the same states said otherwise
pub grown_as : {w : List ℕ} {n : ℕ} {w' : List ℕ} {n' : ℕ} {P Q : ℕ → Type 0} → Grown w n w' n' P → ((y : ℕ) → P y → Q y) → ((y : ℕ) → Q y → P y) → Grown w n w' n' Q
grown_as g f b = record {
  len = g.len;
  more = g.more;
  room = g.room;
  kept = g.kept;
  still = g.still;
  marked = λ y h q. g.marked y h (b y q);
  only = λ y h e. ⊎_elim (λ a. inl a) (λ p. inr (f y p)) (g.only y h e);
  small = g.small;
  new = g.new;
  by = λ k h l. f _ (g.by k h l);
  found = λ y h q u. g.found y h (b y q) u;
}
