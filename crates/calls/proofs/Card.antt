-- Laws of the card: what its checks leave, its edges by their places, and that reading and writing undo each other.
use mathlib.Core.Path.{◌≡◌, refl, sym, ap, ap₂, ◌∙◌}
use mathlib.Core.Logic.{⊎_elim}
use mathlib.Core.Bool.{Bool, true, false, ◌&&◌}
use mathlib.Core.List.Memᴰ
use mathlib.Core.List.{List, [], ◌∷◌}
use Prim.Native.Nat.{ℕ, zero, suc, ◌+◌, ◌-◌, ◌*◌, ◌/◌, ◌%◌, ◌≤◌, ◌<◌}
use native.Mathlib.Nat.{le_of_suc-le-suc, not-suc-le-zero}
use native.Mathlib.Omega.{arith}
use lib.Dec.{eqb, ltb}
use lib.ListN.{length, get_or, take, drop, length-drop, drop_of_length-le}
use lib.Seq.{drop-cons, get_or-take}
use Rattle.model.specs.Limits.{most_vertices, most_edges, most_label, most_longest, head_bytes}
use Rattle.model.specs.Lists.{◌∈◌, Rising, none, next, Bytes}
use Rattle.model.specs.Edges.{edge_number, from_of, label_of, to_of, Bounds}
use Rattle.model.specs.Computed.Lists.{spread}
use Rattle.model.specs.Computed.Edges.{edge?}
use Rattle.model.proofs.Tests.{Tests, test_map, test_and, test_le, test_lt, test_eq, test_same, test_true, test_false, test_yields}
use Rattle.model.proofs.Lists.{in_get_d}
use Rattle.model.proofs.Edges.{edge_fields, test_edge}
use Rattle.model.proofs.Memory.{edge_least}
use Rattle.calls.specs.Call.{Size}
use Rattle.calls.specs.Card.{mark, word_at, edge_bytes, edge_at, edge_at?, card_of, marked?, version?, size_of, count_of, edges_of, rising_triples?, card_edges?, card_checks, card_refusal}
use Rattle.calls.proofs.Checks.{First, none as all_pass, pass, first_is, Passed, done, also, passes, test_ends, test_longest}

-- the first of two tests
pub and_pass : {a b : Bool} → a ≡ true → (a && b) ≡ b
and_pass e = rw e

pub and_stop : {a : Bool} (b : Bool) → a ≡ false → (a && b) ≡ false
and_stop b e = rw e

-- ---- mark and length

pub marked_short : (card : List ℕ) → length card < head_bytes → marked? card ≡ false
marked_short card h = rw (test_false (test_le head_bytes (length card)) (λ k. omega arith))

and_last : (b : Bool) → (b && true) ≡ b
and_last true = refl
and_last false = refl

-- the mark of a card with a whole head is its first three bytes
pub marked_at : (card : List ℕ) → head_bytes ≤ length card → marked? card ≡ (eqb (get_or card 0 0) 80 && (eqb (get_or card 1 0) 82 && eqb (get_or card 2 0) 67))
marked_at [] h = absurd (omega arith)
marked_at (a ∷ []) h = absurd (omega arith)
marked_at (a ∷ b ∷ []) h = absurd (omega arith)
marked_at (a ∷ b ∷ c ∷ l) h =
    rw (test_true (test_le head_bytes (length (a ∷ b ∷ c ∷ l))) h) (ap (λ (t : Bool). eqb a 80 && (eqb b 82 && t)) (and_last (eqb c 67)))

pub test_marked : (card : List ℕ) → Tests (marked? card) ((head_bytes ≤ length card) × (take 3 card ≡ mark))
test_marked card = test_and (test_le head_bytes (length card)) (test_same (take 3 card) mark)

pub marked_head : (card : List ℕ) → marked? card ≡ true → head_bytes ≤ length card
marked_head card e = (test_yields (test_marked card) e).0

-- ---- the checks of the card alone

pub card_is : (card : List ℕ) {n : ℕ} → First (card_checks card) n → card_refusal card ≡ n
unfolding card_refusal
card_is card f = first_is f

-- the edges of a card of another length, and of one of the right length
pub card_edges_long : (card : List ℕ) → (length card ≡ head_bytes + 3 * count_of card → ⊥) → card_edges? card ≡ false
unfolding card_edges?
card_edges_long card n = rw (test_false (test_eq (length card) (head_bytes + 3 * count_of card)) n)

pub card_edges_body : (card : List ℕ) → length card ≡ head_bytes + 3 * count_of card → card_edges? card ≡ rising_triples? (size_of card).vertices 0 (drop head_bytes card)
unfolding card_edges?
card_edges_body card e = rw (test_true (test_eq (length card) (head_bytes + 3 * count_of card)) e)

-- ---- edges by their places

-- three bytes of a list, and those behind them
pub drop_three : (l : List ℕ) (i : ℕ) → i + 2 < length l → drop i l ≡ get_or l i 0 ∷ get_or l (i + 1) 0 ∷ get_or l (i + 2) 0 ∷ drop (i + 3) l
drop_three l i h =
    let a : i + 1 ≡ suc i = omega arith in
    let b : i + 2 ≡ suc (suc i) = omega arith in
    let c : i + 3 ≡ suc (suc (suc i)) = omega arith in
    rw (a, b, c) (drop-cons l i 0 (omega arith)
    ∙ ap (λ (m : List ℕ). get_or l i 0 ∷ m) (drop-cons l (suc i) 0 (omega arith)
    ∙ ap (λ (m : List ℕ). get_or l (suc i) 0 ∷ m) (drop-cons l (suc (suc i)) 0 (omega arith))))

-- edges that are tested one by one, as the bytes from i on: refused by one that is no edge or does not rise, or passed on to the next
module _ (vertices prev : ℕ) (l : List ℕ) (i : ℕ) where
  triples_here : i + 2 < length l
      → rising_triples? vertices prev (drop i l) ≡ (edge_at? vertices l i && (ltb prev (edge_at l i) && rising_triples? vertices (edge_at l i) (drop (i + 3) l)))
  unfolding rising_triples?
  triples_here h = ap (rising_triples? vertices prev) (drop_three l i h)

  pub triples_other : i + 2 < length l → edge_at? vertices l i ≡ false → rising_triples? vertices prev (drop i l) ≡ false
  triples_other h e = triples_here h ∙ and_stop _ e

  pub triples_low : i + 2 < length l → edge_at? vertices l i ≡ true → edge_at l i ≤ prev → rising_triples? vertices prev (drop i l) ≡ false
  triples_low h e k = triples_here h ∙ and_pass e ∙ and_stop _ (test_false (test_lt prev (edge_at l i)) (λ z. omega (arith, k, z)))

  pub triples_more : i + 2 < length l → edge_at? vertices l i ≡ true → prev < edge_at l i
      → rising_triples? vertices prev (drop i l) ≡ rising_triples? vertices (edge_at l i) (drop (i + 3) l)
  triples_more h e k = triples_here h ∙ and_pass e ∙ and_pass (test_true (test_lt prev (edge_at l i)) k)

  pub triples_done : length l ≤ i → rising_triples? vertices prev (drop i l) ≡ true
  unfolding rising_triples?
  triples_done h = rw (drop_of_length-le l h)

-- the bytes of n edges name n edges, the i-th by the three bytes from 3 × i on
pub length_edges : (n : ℕ) (l : List ℕ) → length l ≡ 3 * n → length (edges_of l) ≡ n
unfolding edges_of
length_edges zero [] e = refl
length_edges (suc n) [] e = absurd (omega arith)
length_edges n (a ∷ []) e = absurd (omega arith)
length_edges n (a ∷ b ∷ []) e = absurd (omega arith)
length_edges zero (a ∷ b ∷ c ∷ l) e = absurd (omega arith)
length_edges (suc n) (a ∷ b ∷ c ∷ l) e = ap suc (length_edges n l (omega arith))

pub get_d_edges : (l : List ℕ) (i : ℕ) → 3 * i + 2 < length l → get_or (edges_of l) i 0 ≡ edge_at l (3 * i)
unfolding edges_of
get_d_edges [] i h = absurd (omega arith)
get_d_edges (a ∷ []) i h = absurd (omega arith)
get_d_edges (a ∷ b ∷ []) i h = absurd (omega arith)
get_d_edges (a ∷ b ∷ c ∷ l) zero h = refl
get_d_edges (a ∷ b ∷ c ∷ l) (suc i) h =
    let e : 3 * suc i ≡ suc (suc (suc (3 * i))) = omega arith in
    let p : suc (suc (suc (3 * i))) + 1 ≡ suc (suc (suc (3 * i + 1))) = omega arith in
    let q : suc (suc (suc (3 * i))) + 2 ≡ suc (suc (suc (3 * i + 2))) = omega arith in
    rw (e, p, q) (get_d_edges l i (omega arith))

-- the bytes of edges
pub length_bytes : (l : List ℕ) → length (spread edge_bytes l) ≡ 3 * length l
unfolding spread
length_bytes [] = refl
length_bytes (x ∷ l) = let e = length_bytes l in omega arith

-- those of the i-th edge
pub record BytesAt (l bytes : List ℕ) (i : ℕ) : Type 0 where
  pub from : get_or bytes (3 * i) 0 ≡ from_of (get_or l i 0)
  pub label : get_or bytes (3 * i + 1) 0 ≡ label_of (get_or l i 0)
  pub to : get_or bytes (3 * i + 2) 0 ≡ to_of (get_or l i 0)

pub get_d_bytes : (l : List ℕ) (i : ℕ) → i < length l → BytesAt l (spread edge_bytes l) i
unfolding spread
get_d_bytes [] i h = absurd (not-suc-le-zero h)
get_d_bytes (x ∷ l) zero h = record { from = refl; label = refl; to = refl }
get_d_bytes (x ∷ l) (suc i) h =
    let e : 3 * suc i ≡ suc (suc (suc (3 * i))) = omega arith in
    let p : suc (suc (suc (3 * i))) + 1 ≡ suc (suc (suc (3 * i + 1))) = omega arith in
    let q : suc (suc (suc (3 * i))) + 2 ≡ suc (suc (suc (3 * i + 2))) = omega arith in
    let r = get_d_bytes l i (le_of_suc-le-suc h) in
    record { from = rw e r.from; label = rw (e, p) r.label; to = rw (e, q) r.to }

-- ---- what passed checks leave

-- three bytes that name an edge above prev
pub record Leg (vertices prev from label to : ℕ) : Type 0 where
  pub from_vertex : from < vertices
  pub to_vertex : to < vertices
  pub label_least : 1 ≤ label
  pub label_most : label ≤ most_label
  pub above : prev < edge_number from label to

-- a test, as the statement that it passes
test_is : (b : Bool) → Tests b (b ≡ true)
test_is true = record { yields = λ _. refl; passes = λ _. tt }
test_is false = record { yields = λ t. absurd t; passes = λ e. absurd (let z : ◌≡◌ {A = ℕ} 0 1 = cc in omega arith) }

test_triple : (vertices prev from label to : ℕ) (more : List ℕ)
    → Tests (rising_triples? vertices prev (from ∷ label ∷ to ∷ more))
    (Leg vertices prev from label to × (rising_triples? vertices (edge_number from label to) more ≡ true))
unfolding rising_triples?
test_triple vertices prev from label to more =
    let x = edge_number from label to in
    test_map
    (λ h. (record { from_vertex = h.0.0.0; to_vertex = h.0.0.1; label_least = h.0.1.0; label_most = h.0.1.1; above = h.1.0 }, h.1.1))
    (λ h. let l = h.0 in (((l.from_vertex, l.to_vertex), (l.label_least, l.label_most)), (l.above, h.1)))
    (test_and
    (test_and (test_ends vertices from to) (test_and (test_le 1 label) (test_le label most_label)))
    (test_and (test_lt prev x) (test_is (rising_triples? vertices x more))))

-- such an edge is an edge, and its number has those fields
module _ {vertices prev from label to : ℕ} (few : vertices ≤ most_vertices) (l : Leg vertices prev from label to) where
  triple_fields : (from_of (edge_number from label to) ≡ from) × (label_of (edge_number from label to) ≡ label) × (to_of (edge_number from label to) ≡ to)
  triple_fields = edge_fields from label to (omega (arith, l.label_most)) (omega (arith, l.to_vertex))

  triple_edge : edge? vertices (edge_number from label to) ≡ true
  triple_edge =
      let (a, b, c) = triple_fields in
      test_true (test_edge vertices (edge_number from label to))
      (record { from = rw a l.from_vertex; label_low = rw b l.label_least; label_high = rw b l.label_most; to = rw c l.to_vertex })

not_false : {A : Type 0} → ◌≡◌ {A = Bool} false true → A
not_false e = absurd (let z : ◌≡◌ {A = ℕ} 0 1 = cc in omega arith)

-- edges that pass: edges of the graph, rising from above prev
pub record TriplesGood (vertices prev : ℕ) (body : List ℕ) : Type 0 where
  pub rising : Rising (edges_of body)
  pub each : (x : ℕ) → x ∈ edges_of body → (prev < x) × (edge? vertices x ≡ true)

pub triples_good : (vertices prev : ℕ) (body : List ℕ) → rising_triples? vertices prev body ≡ true → vertices ≤ most_vertices → TriplesGood vertices prev body
unfolding edges_of rising_triples?
triples_good vertices prev [] e h = record { rising = none; each = λ x m. absurd (Memᴰ.not-nil m) }
triples_good vertices prev (a ∷ []) e h = not_false e
triples_good vertices prev (a ∷ b ∷ []) e h = not_false e
triples_good vertices prev (a ∷ b ∷ c ∷ more) e h =
    let (l, r) = test_yields (test_triple vertices prev a b c more) e in
    let o = triples_good vertices (edge_number a b c) more r h in
    record {
      rising = next (λ z m. (o.each z m).0) o.rising;
      each = λ x m.
          ⊎_elim (λ q. rw q (l.above, triple_edge h l)) (λ k. let (p, q) = o.each x k in (omega (arith, p, l.above), q)) (Memᴰ.cases_cons m);
    }

-- a card that passes the checks of the card alone
pub record CardGood (card : List ℕ) : Type 0 where
  pub marked : marked? card ≡ true
  pub version : version? card ≡ true
  pub longest_least : 1 ≤ (size_of card).longest
  pub longest_most : (size_of card).longest ≤ most_longest
  pub whole : length card ≡ head_bytes + 3 * count_of card
  pub triples : rising_triples? (size_of card).vertices 0 (drop head_bytes card) ≡ true
  pub count : length (edges_of (drop head_bytes card)) ≡ count_of card

good : (card : List ℕ) → Passed (card_checks card) → CardGood card
unfolding card_edges?
good card (also marked (also version (also longest (also triples done)))) =
    let (k, l) = test_yields (test_longest (size_of card).longest) longest in
    let (w, r) = test_yields
    (test_and (test_eq (length card) (head_bytes + 3 * count_of card)) (test_is (rising_triples? (size_of card).vertices 0 (drop head_bytes card))))
    triples in
    record {
      marked = marked;
      version = version;
      longest_least = k;
      longest_most = l;
      whole = w;
      triples = r;
      count = length_edges (count_of card) (drop head_bytes card) (length-drop head_bytes card ∙ omega (arith, w));
    }

pub card_good : (card : List ℕ) → card_refusal card ≡ 0 → CardGood card
unfolding card_refusal
card_good card e = good card (passes (card_checks card) tt e)

pub byte_at : (card : List ℕ) → Bytes card → (i : ℕ) → get_or card i 0 < 256
byte_at [] f i = omega arith
byte_at (x ∷ l) f zero = f x (Memᴰ.head refl)
byte_at (x ∷ l) f (suc i) = byte_at l (λ z m. f z (Memᴰ.tail m)) i

-- a slice of bytes, as a function knows it
pub bytes_known : (l : List ℕ) → ((i : ℕ) → get_or l i 0 < 256) → Bytes l
bytes_known l f x m = let k = in_get_d m in rw k.is at (f k.i)

-- a card of bytes has at most 256 vertices
pub card_vertices : (card : List ℕ) → Bytes card → (size_of card).vertices ≤ most_vertices
card_vertices card f = omega (arith, byte_at card f 5)

-- ---- reading undoes writing

pub edges_bytes : (edges : List ℕ) → edges_of (spread edge_bytes edges) ≡ edges
unfolding edges_of spread
edges_bytes [] = refl
edges_bytes (x ∷ l) =
    let e : edge_number (from_of x) (label_of x) (to_of x) ≡ x = omega arith in
    ap₂ ◌∷◌ e (edges_bytes l)

-- edges of the graph, rising from above prev, pass as edges
pub triples_pass : (vertices : ℕ) {edges : List ℕ} (prev : ℕ) → Rising edges → ((x : ℕ) → x ∈ edges → (prev < x) × (edge? vertices x ≡ true))
    → rising_triples? vertices prev (spread edge_bytes edges) ≡ true
unfolding spread rising_triples?
triples_pass vertices prev none f = refl
triples_pass vertices prev (next {x = x} {l = l} h s) f =
    let (a, b) = f x (Memᴰ.head refl) in
    let e : edge_number (from_of x) (label_of x) (to_of x) ≡ x = omega arith in
    let t = test_yields (test_edge vertices x) b in
    let r = triples_pass vertices x s (λ z m. (h z m, (f z (Memᴰ.tail m)).1)) in
    test_true (test_triple vertices prev (from_of x) (label_of x) (to_of x) (spread edge_bytes l))
    (record { from_vertex = t.from; to_vertex = t.to; label_least = t.label_low; label_most = t.label_high; above = rw e a }, rw e r)

bytes_cons : {x : ℕ} {l : List ℕ} → x < 256 → Bytes l → Bytes (x ∷ l)
bytes_cons h f z m = ⊎_elim (λ e. omega (arith, e, h)) (λ k. f z k) (Memᴰ.cases_cons m)

-- the bytes of edges are below 256
bytes_edges : (vertices : ℕ) → vertices ≤ most_vertices → (edges : List ℕ)
    → ((x : ℕ) → x ∈ edges → edge? vertices x ≡ true) → Bytes (spread edge_bytes edges)
unfolding spread
bytes_edges vertices few [] f = λ x m. absurd (Memᴰ.not-nil m)
bytes_edges vertices few (x ∷ l) f =
    let t = test_yields (test_edge vertices x) (f x (Memᴰ.head refl)) in
    bytes_cons (omega (arith, t.from)) (bytes_cons (omega arith) (bytes_cons (omega arith) (bytes_edges vertices few l (λ z m. f z (Memᴰ.tail m)))))

-- a header and rising edges of its graph, as a card holds them
pub record Cardable (h : Size) (edges : List ℕ) : Type 0 where
  pub bounds : Bounds h.vertices h.longest
  pub few : length edges ≤ most_edges
  pub rising : Rising edges
  pub valid : (x : ℕ) → x ∈ edges → edge? h.vertices x ≡ true

-- their card passes, and says them
pub record CardSays (card : List ℕ) (h : Size) (edges : List ℕ) : Type 0 where
  pub passes : card_refusal card ≡ 0
  pub size_is : size_of card ≡ h
  pub count : count_of card ≡ length edges
  pub edges_are : edges_of (drop head_bytes card) ≡ edges
  pub bytes : Bytes card
  pub size : length card ≡ head_bytes + 3 * length edges

pub card_says : {h : Size} {edges : List ℕ} → Cardable h edges → CardSays (card_of h edges) h edges
unfolding card_of
card_says {h} {edges} c =
    let vertices_are : h.vertices - 1 + 1 ≡ h.vertices = omega (arith, c.bounds.vertices_least) in
    let n : length edges / 256 * 256 + length edges % 256 ≡ length edges = omega arith in
    let size : length (card_of h edges) ≡ head_bytes + 3 * length edges = omega (arith, length_bytes edges) in
    let rises = triples_pass h.vertices 0 c.rising (λ x m. (omega (arith, edge_least h.vertices x (c.valid x m)), c.valid x m)) in
    record {
      passes = card_is (card_of h edges)
          (pass (test_true (test_marked (card_of h edges)) (omega (arith, size), refl))
          (pass refl
          (pass (test_true (test_longest h.longest) (c.bounds.longest_least, c.bounds.longest_most))
          (pass (card_edges_body (card_of h edges) (size ∙ ap (λ (k : ℕ). head_bytes + 3 * k) (sym n)) ∙ rw vertices_are rises) all_pass))));
      size_is = ap (λ (v : ℕ). record { vertices = v; longest = h.longest }) vertices_are;
      count = n;
      edges_are = edges_bytes edges;
      bytes =
          bytes_cons (omega arith) (bytes_cons (omega arith) (bytes_cons (omega arith) (bytes_cons (omega arith) (bytes_cons (omega arith)
          (bytes_cons (omega (arith, c.bounds.vertices_most)) (bytes_cons (omega (arith, c.bounds.longest_most))
          (bytes_cons (omega (arith, c.few)) (bytes_cons (omega arith) (bytes_edges h.vertices c.bounds.vertices_most edges c.valid)))))))));
      size = size;
    }

-- ---- writing undoes reading

-- edges that pass are the bytes of the edges that they name
pub bytes_triples : (vertices prev : ℕ) (body : List ℕ) → rising_triples? vertices prev body ≡ true → vertices ≤ most_vertices
    → spread edge_bytes (edges_of body) ≡ body
unfolding edges_of rising_triples? spread
bytes_triples vertices prev [] e h = refl
bytes_triples vertices prev (a ∷ []) e h = not_false e
bytes_triples vertices prev (a ∷ b ∷ []) e h = not_false e
bytes_triples vertices prev (a ∷ b ∷ c ∷ more) e h =
    let (l, r) = test_yields (test_triple vertices prev a b c more) e in
    let (p, q, s) = triple_fields h l in
    ap₂ ◌∷◌ p (ap₂ ◌∷◌ q (ap₂ ◌∷◌ s (bytes_triples vertices (edge_number a b c) more r h)))

-- the bytes of a head
card_split : (card : List ℕ) → head_bytes ≤ length card
    → card ≡ get_or card 0 0 ∷ get_or card 1 0 ∷ get_or card 2 0
    ∷ get_or card 3 0 ∷ get_or card 4 0 ∷ get_or card 5 0
    ∷ get_or card 6 0 ∷ get_or card 7 0 ∷ get_or card 8 0 ∷ drop head_bytes card
card_split card h =
    drop_three card 0 (omega arith)
    ∙ ap (λ (l : List ℕ). get_or card 0 0 ∷ get_or card 1 0 ∷ get_or card 2 0 ∷ l) (drop_three card 3 (omega arith)
    ∙ ap (λ (l : List ℕ). get_or card 3 0 ∷ get_or card 4 0 ∷ get_or card 5 0 ∷ l) (drop_three card 6 (omega arith)))

pub card_again : (card : List ℕ) → card_refusal card ≡ 0 → Bytes card → card_of (size_of card) (edges_of (drop head_bytes card)) ≡ card
unfolding card_of
card_again card e f =
    let g = card_good card e in
    let m = test_yields (test_marked card) g.marked in
    let v = test_yields (test_eq (word_at card 3) 1) g.version in
    let n = length (edges_of (drop head_bytes card)) in
    let high : n / 256 ≡ get_or card 7 0 = omega (arith, g.count, byte_at card f 8) in
    let low : n % 256 ≡ get_or card 8 0 = omega (arith, g.count, byte_at card f 8) in
    let vertices_are : get_or card 5 0 + 1 - 1 ≡ get_or card 5 0 = omega arith in
    let version_high : 0 ≡ get_or card 3 0 = omega (arith, v) in
    let version_low : 1 ≡ get_or card 4 0 = omega (arith, v) in
    let triples = bytes_triples (size_of card).vertices 0 (drop head_bytes card) g.triples (card_vertices card f) in
    ap₂ ◌∷◌ (letter m 0 (omega arith)) (ap₂ ◌∷◌ (letter m 1 (omega arith)) (ap₂ ◌∷◌ (letter m 2 (omega arith))
    (ap₂ ◌∷◌ version_high (ap₂ ◌∷◌ version_low (ap₂ ◌∷◌ vertices_are (ap₂ ◌∷◌ refl (ap₂ ◌∷◌ high (ap₂ ◌∷◌ low triples))))))))
    ∙ sym (card_split card m.0)
  where
    letter : (head_bytes ≤ length card) × (take 3 card ≡ mark) → (i : ℕ) → i < 3 → get_or mark i 0 ≡ get_or card i 0
    letter m i h = ap (λ (l : List ℕ). get_or l i 0) (sym m.1) ∙ get_or-take 3 card i 0 h
