-- The walk back from a place: there is one, its links are read one after another, and it is written in running order.
use mathlib.Core.Path.{◌≡◌, refl, sym, ap, ap₂, ◌∙◌, subst}
use mathlib.Core.List.{List, [], ◌∷◌, reverse_aux, reverse_aux-eq}
use Prim.Native.Nat.{ℕ, suc, ◌+◌, ◌-◌, ◌≤◌, ◌<◌}
use native.Mathlib.Omega.{arith}
use lib.ListN.{length, set, drop, length-set}
use lib.Seq.{get_or-set_same, drop-cons, drop-set-lt}
use Rattle.route_search.specs.Work.{queued_number, queued_at, before_at, edge_into}
use Rattle.route_search.specs.Traced.{Chain, done, link}
use Rattle.route_walk.specs.Walk.{Linked, CountsLinks, WritesWalk}

-- one link of it
pub record Linking (w : List ℕ) (at : ℕ) (p : List ℕ) : Type 0 where
  pub rest : List ℕ
  pub is : p ≡ edge_into w at ∷ rest
  pub chain : Chain w (before_at w at) rest
  pub earlier : before_at w at < at

pub linking : {w : List ℕ} {at : ℕ} {p : List ℕ} → Chain w at p → ¬ (at ≡ 0) → Linking w at p
linking done d = absurd (d refl)
linking {w} (link {k = k} {before = m} {edge = x} {p = p} a b c e f) d =
    let u : before_at w k ≡ m = omega arith in
    let v : edge_into w k ≡ x = omega arith in
    record { rest = p; is = ap (λ (z : ℕ). z ∷ p) (sym v); chain = subst (λ (z : ℕ). Chain w z p) (sym u) f; earlier = omega arith }

-- there is one walk back
chain_same : {w : List ℕ} {j k : ℕ} {p q : List ℕ} → Chain w j p → Chain w k q → j ≡ k → p ≡ q
chain_same done done e = refl
chain_same done (link a b c d f) e = absurd (omega arith)
chain_same (link a b c d f) done e = absurd (omega arith)
chain_same {w} (link {k = j} {before = m} {x = y} {edge = x} a b c d f) (link {k = k} {before = n} {x = u} {edge = z} a' b' c' d' f') e =
    let v : queued_number m y x ≡ queued_number n u z = sym d ∙ ap (queued_at w) e ∙ d' in
    ap₂ ◌∷◌ (omega arith) (chain_same f f' (omega arith))

chain_none : {w : List ℕ} {at : ℕ} {p : List ℕ} → Chain w at p → at ≡ 0 → length p ≡ 0
chain_none done e = refl
chain_none (link a b c d f) e = absurd (omega arith)

pub chain_some : {w : List ℕ} {at : ℕ} {p : List ℕ} → Chain w at p → 1 ≤ at → 1 ≤ length p
chain_some done d = absurd (omega arith)
chain_some (link a b c e f) d = omega arith

-- ---- counting

-- n links are read, and the rest begins at a place
pub record CountingLinks (w : List ℕ) (place at n : ℕ) : Type 0 where
  pub rest : List ℕ
  pub chain : Chain w at rest
  pub sum : (p : List ℕ) → Chain w place p → n + length rest ≡ length p
  pub bound : n + at ≤ place

pub counting_start : {w : List ℕ} {place : ℕ} → Linked w place → CountingLinks w place place 0
counting_start h =
    record { rest = h.walk; chain = h.chain; sum = λ q d. omega (arith, ap length (chain_same h.chain d refl)); bound = omega arith }

pub counting_more : {w : List ℕ} {place at n : ℕ} → CountingLinks w place at n → ¬ (at ≡ 0) → CountingLinks w place (before_at w at) (n + 1)
counting_more c d =
    let l = linking c.chain d in
    record { rest = l.rest; chain = l.chain; sum = λ p h. omega (arith, c.sum p h, ap length l.is); bound = omega (arith, c.bound, l.earlier) }

pub counting_end : {w : List ℕ} {place at n : ℕ} → Linked w place → CountingLinks w place at n → at ≡ 0 → CountsLinks w place n
counting_end h c e = record { is = λ p k. omega (arith, c.sum p k, chain_none c.chain e); small = omega (arith, c.bound, h.small) }

-- ---- writing

-- what is still to be written stands before slot i, and then walk memory is as it should be
pub record WritingWalk (w : List ℕ) (place at i : ℕ) (walk₀ walk : List ℕ) : Type 0 where
  pub rest : List ℕ
  pub chain : Chain w at rest
  pub count : length rest ≡ i
  pub small : at ≤ place
  pub len : length walk ≡ length walk₀
  pub fits : i ≤ length walk
  pub same : (p : List ℕ) → Chain w place p → reverse_aux rest (drop i walk) ≡ reverse_aux p (drop (length p) walk₀)

pub writing_start : {w : List ℕ} {place n : ℕ} {walk : List ℕ} → Linked w place → CountsLinks w place n → n ≤ length walk → WritingWalk w place place n walk walk
writing_start {walk = walk} h k f =
    record {
      rest = h.walk;
      chain = h.chain;
      count = sym (k.is h.walk h.chain);
      small = omega arith;
      len = refl;
      fits = f;
      same = λ q d. ap₂ (λ (r : List ℕ) (m : ℕ). reverse_aux r (drop m walk)) (chain_same h.chain d refl) (k.is q d);
    }

pub writing_more : {w : List ℕ} {place at i : ℕ} {walk₀ walk : List ℕ} → WritingWalk w place at i walk₀ walk → 0 < i
    → WritingWalk w place (before_at w at) (i - 1) walk₀ (set walk (i - 1) (edge_into w at))
writing_more {w} {place} {at} {i} {walk₀} {walk} c h =
    let l = linking c.chain (λ e. omega (arith, chain_none c.chain e, c.count)) in
    let long = length-set walk (i - 1) (edge_into w at) in
    record {
      rest = l.rest;
      chain = l.chain;
      count = omega (arith, c.count, ap length l.is);
      small = omega (arith, c.small, l.earlier);
      len = long ∙ c.len;
      fits = omega (arith, c.fits, long);
      same = λ p d. ap (λ (m : List ℕ). reverse_aux l.rest m) tail ∙ ap (λ (m : List ℕ). reverse_aux m (drop i walk)) (sym l.is) ∙ c.same p d;
    }
  where
    inside : i - 1 < length walk
    inside = omega (arith, c.fits)

    tail : drop (i - 1) (set walk (i - 1) (edge_into w at)) ≡ edge_into w at ∷ drop i walk
    tail =
        let next : suc (i - 1) ≡ i = omega arith in
        drop-cons (set walk (i - 1) (edge_into w at)) (i - 1) 0 (omega (arith, inside, length-set walk (i - 1) (edge_into w at)))
        ∙ ap₂ ◌∷◌ (get_or-set_same walk (i - 1) (edge_into w at) 0 inside)
        (drop-set-lt (suc (i - 1)) walk (i - 1) (edge_into w at) (omega arith) ∙ ap (λ (m : ℕ). drop m walk) next)

pub writing_end : {w : List ℕ} {place at i : ℕ} {walk₀ walk : List ℕ} → WritingWalk w place at i walk₀ walk → i ≡ 0 → WritesWalk w place walk₀ walk
writing_end {w} {place} {at} {i} {walk₀} {walk} c e = record { is = λ p d. go c.rest (c.count ∙ e) (c.same p d) ∙ reverse_aux-eq p (drop (length p) walk₀) }
  where
    go : {m : List ℕ} (rest : List ℕ) → length rest ≡ 0 → reverse_aux rest (drop i walk) ≡ m → walk ≡ m
    go [] k h = ap (λ (j : ℕ). drop j walk) (sym e) ∙ h
    go (x ∷ rest) k h = absurd (omega arith)
