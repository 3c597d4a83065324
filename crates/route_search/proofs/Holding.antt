-- How work memory holds the nodes: so it does once a state is reached.
use mathlib.Core.Path.{◌≡◌, sym, ap, ◌∙◌, subst}
use mathlib.Core.Logic.{⊎_elim, ◌≢◌}
use mathlib.Core.List.Memᴰ
use mathlib.Core.List.{List, [], ◌∷◌, ◌++◌, Memᴰ}
use Prim.Native.Nat.{ℕ, zero, suc, ◌+◌, ◌/◌, ◌%◌, ◌≤◌, ◌<◌}
use native.Mathlib.Decide.{ℕ_discrete}
use native.Mathlib.Omega.{arith}
use lib.ListN.{length, get_or, set, length-set, length-append, get_or-append}
use lib.Seq.{get_or-set_same, get_or-set_other, get_or_at}
use Rattle.model.specs.Computed.Levels.{most_states}
use Rattle.model.specs.Computed.Routes.{Node, start_node}
use Rattle.model.specs.Queue.{Queued}
use Rattle.model.proofs.Lists.{at_in}
use Rattle.route_search.specs.Work.{state_unit, before_unit, queued_number, queued_at, state_at, node_at, Link, Marked, HoldsNodes}
use Rattle.route_search.specs.Traced.{Chain, done, link}

pub node_in : (s : ℕ) (nodes : List Node) (k : ℕ) → k < length nodes → Memᴰ (node_at s nodes k) nodes
node_in s nodes k h = at_in (start_node s) nodes k h

-- the state of a queued number
pub state_in : (before x edge : ℕ) → x < most_states → edge < state_unit → queued_number before x edge / state_unit % (before_unit / state_unit) ≡ x
state_in before x edge h k = omega arith

-- a state with a mark is queued
pub marked_long : {s : ℕ} {w : List ℕ} {nodes : List Node} {y place : ℕ} → HoldsNodes s w nodes → Marked s nodes y place → 1 ≤ length (node_at s nodes place).back
marked_long {place = place} h m = let k = h.link_of place m.positive m.inside in omega (arith, ap length k.back)

pub marked_queued : {s : ℕ} {w : List ℕ} {nodes : List Node} {y place : ℕ} → HoldsNodes s w nodes → Marked s nodes y place → Queued nodes y
marked_queued {s} {nodes = nodes} {place = place} h m =
    record { node = node_at s nodes place; among = node_in s nodes place m.inside; is = m.is; long = marked_long h m }

module _ (s : ℕ) (w : List ℕ) (nodes : List Node) (h : HoldsNodes s w nodes) (y n k x : ℕ) (new : Node) (hy : y < most_states) (count : length nodes ≡ n) (room : n ≤ most_states) (hk : k < n)
    (hx : x < state_unit) (is : new.at ≡ y) (back : new.back ≡ x ∷ (node_at s nodes k).back) where
  abbrev put : List ℕ
  put = set (set w y n) (most_states + n) (queued_number k y x)

  put_other : (j : ℕ) → j ≢ y → j ≢ most_states + n → get_or put j 0 ≡ get_or w j 0
  put_other j a b = get_or-set_other (set w y n) (most_states + n) j (queued_number k y x) 0 b ∙ get_or-set_other w y j n 0 a

  put_mark : get_or put y 0 ≡ n
  put_mark = get_or-set_other (set w y n) (most_states + n) y (queued_number k y x) 0 (omega arith) ∙ get_or-set_same w y n 0 (omega (arith, h.long))

  put_queued : queued_at put n ≡ queued_number k y x
  put_queued = get_or-set_same (set w y n) (most_states + n) (queued_number k y x) 0 (omega (arith, length-set w y n, h.long))

  put_state : state_at put n ≡ y
  put_state = ap (λ (q : ℕ). q / state_unit % (before_unit / state_unit)) put_queued ∙ state_in k y x hy hx

  older : (j : ℕ) → j < n → node_at s (nodes ++ new ∷ []) j ≡ node_at s nodes j
  older j b = get_or-append nodes (new ∷ []) (start_node s) j (omega arith)

  newest : node_at s (nodes ++ new ∷ []) n ≡ new
  newest = get_or_at nodes new [] (start_node s) n count

  longer : length (nodes ++ new ∷ []) ≡ suc n
  longer = omega (arith, length-append nodes (new ∷ []))

  queued_old : (j : ℕ) → j < n → queued_at put j ≡ queued_at w j
  queued_old j b = put_other (most_states + j) (omega arith) (omega arith)

  links_old : (j : ℕ) → 1 ≤ j → j < n → Link s put (nodes ++ new ∷ []) j
  links_old j a b =
      let l = h.link_of j a (omega arith) in
      record {
        before = l.before;
        edge = l.edge;
        earlier = l.earlier;
        small = l.small;
        is = queued_old j b ∙ l.is ∙ ap (λ (m : Node). queued_number l.before m.at l.edge) (sym (older j b));
        back = ap (λ (m : Node). m.back) (older j b) ∙ l.back ∙ ap (λ (m : Node). l.edge ∷ m.back) (sym (older l.before (omega (arith, l.earlier))));
      }

  link_new : Link s put (nodes ++ new ∷ []) n
  link_new = record {
    before = k;
    edge = x;
    earlier = hk;
    small = hx;
    is = put_queued ∙ ap (λ (a : ℕ). queued_number k a x) (sym (ap (λ (m : Node). m.at) newest ∙ is));
    back = ap (λ (m : Node). m.back) newest ∙ back ∙ ap (λ (m : Node). x ∷ m.back) (sym (older k hk));
  }

  pub holds_new : HoldsNodes s put (nodes ++ new ∷ [])
  holds_new = record {
    long = omega (arith, length-set (set w y n) (most_states + n) (queued_number k y x), length-set w y n, h.long);
    root = older 0 (omega arith) ∙ h.root;
    state_of = λ j b. elim (ℕ_discrete j n) [
      | yes e ↦ subst (λ (i : ℕ). state_at put i ≡ (node_at s (nodes ++ new ∷ []) i).at) (sym e) (put_state ∙ sym is ∙ ap (λ (m : Node). m.at) (sym newest))
      | no d ↦
          ap (λ (q : ℕ). q / state_unit % (before_unit / state_unit)) (queued_old j (omega (arith, longer)))
          ∙ h.state_of j (omega (arith, longer)) ∙ ap (λ (m : Node). m.at) (sym (older j (omega (arith, longer))))
    ];
    link_of = λ j a b. elim (ℕ_discrete j n) [
      | yes e ↦ subst (λ (i : ℕ). Link s put (nodes ++ new ∷ []) i) (sym e) link_new
      | no d ↦ links_old j a (omega (arith, longer))
    ];
    mark_none = λ z b e m. elim (ℕ_discrete z y) [
      | yes q ↦ omega (arith, ap (λ (i : ℕ). get_or put i 0) q, put_mark)
      | no d ↦ ⊎_elim
          (λ i. h.mark_none z b (sym (put_other z d (omega arith)) ∙ e) (record { node = m.node; among = i; is = m.is; long = m.long }))
          (λ i. d (sym m.is ∙ ap (λ (k : Node). k.at) (Memᴰ.eq_of_singleton i) ∙ is)) (Memᴰ.append_cases nodes m.among)
    ];
    mark_some = λ z b e. elim (ℕ_discrete z y) [
      | yes q ↦ subst (λ (i : ℕ). Marked s (nodes ++ new ∷ []) z i) (sym (ap (λ (i : ℕ). get_or put i 0) q ∙ put_mark))
          (record { positive = omega arith; inside = omega (arith, longer); is = ap (λ (m : Node). m.at) newest ∙ is ∙ sym q })
      | no d ↦
          let same : get_or put z 0 ≡ get_or w z 0 = put_other z d (omega arith) in
          let m = h.mark_some z b (λ q. e (same ∙ q)) in
          subst (λ (i : ℕ). Marked s (nodes ++ new ∷ []) z i) (sym same)
          (record { positive = m.positive; inside = omega (arith, longer, m.inside); is = ap (λ (q : Node). q.at) (older (get_or w z 0) (omega (arith, m.inside))) ∙ m.is })
    ];
  }

-- ---- the links of a node give its walk

module _ {s : ℕ} {w : List ℕ} {nodes : List Node} (h : HoldsNodes s w nodes) (small : (k : ℕ) → k < length nodes → (node_at s nodes k).at < most_states) where
  root_chain : (k : ℕ) → k ≡ 0 → Chain w k (node_at s nodes k).back
  root_chain k e = rw (e, h.root) done

  pub holds_chain : (f k : ℕ) → k ≤ f → k < length nodes → Chain w k (node_at s nodes k).back
  holds_chain zero k a b = root_chain k (omega arith)
  holds_chain (suc f) k a b = elim (ℕ_discrete k 0) [
    | yes e ↦ root_chain k e
    | no d ↦
        let l = h.link_of k (omega arith) b in
        subst (Chain w k) (sym l.back) (link l.earlier (small k b) l.small l.is (holds_chain f l.before (omega (arith, l.earlier)) (omega (arith, l.earlier))))
  ]
