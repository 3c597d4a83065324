-- The ledger (document 01): a plain machine beside the calls. It is shown numbers, bytes and how many slots are lent. It shares with the calls
-- the number of an edge and the entries that edges determine, and nothing else: it has its own chain of refusals and its own card reader.
use Rattle.std.specs.Prelude.{Bool, true, false, not, ◌||◌, List, [], ◌∷◌, map, ℕ, zero, suc, ◌+◌, ◌-◌, ◌*◌, eqb, ltb, leb, length, get_or}
use Rattle.model.specs.Limits.{most_vertices, most_edges, most_label, most_longest, from_unit, least_work, head_bytes, triple_bytes}
use Rattle.model.specs.Lists.{keep, from, up_to, any?, mem?, Bytes}
use Rattle.model.specs.Edges.{edge_number}
use Rattle.model.specs.Computed.Lists.{spread}
use Rattle.model.specs.Computed.Entries.{determined}

-- "It is fed what each call is given: the record of an opening, the leg of a lay or lift, the bytes of a card"
pub data Given : Type 0 where
  opening : (vertices longest : ℕ) (totals : List ℕ) → Given
  insertion removal : (from label to : ℕ) → Given
  card : (bytes : List ℕ) → Bytes bytes → Given

-- "and how many slots are lent as leg, index and work memory"
pub record Fed : Type 0 where
  pub given : Given
  pub edge_slots : ℕ
  pub index_slots : ℕ
  pub work_slots : ℕ

-- "It holds places, k and a set of legs, the standing legs": a list to which a lay adds and from which a lift takes out
pub record Book : Type 0 where
  pub vertices : ℕ
  pub longest : ℕ
  pub edges : List ℕ

-- "the standing legs, rising": of all numbers that an edge can have, those in the set
unfoldable pub rising : List ℕ → List ℕ
rising edges = keep (λ x. mem? x edges) (up_to (most_vertices * from_unit))

-- "eight totals, the legs of each colour" (document 02, Four), by the ledger's own count: of all numbers that an edge with that label can have, those
-- in the set
unfoldable pub labelled : ℕ → List ℕ
labelled label = spread (λ a. map (λ b. edge_number a label b) (up_to most_vertices)) (up_to most_vertices)

unfoldable pub tally : List ℕ → List ℕ
tally edges = map (λ label. length (keep (λ x. mem? x edges) (labelled label))) (from 1 most_label)

-- "the entries that they determine with the ledger's places and k"
abbrev pub book_entries : Book → List ℕ
book_entries b = determined (record { vertices = b.vertices; longest = b.longest; edges = rising b.edges })

-- ---- refusals: the table's conditions, in each call's order

-- the number if the condition applies, else what the later ones give
abbrev pub when : Bool → ℕ → ℕ → ℕ
when true number later = number
when false number later = later

abbrev pub outside : ℕ → ℕ → ℕ → Bool
outside low high x = ltb x low || ltb high x

-- "4 under 4,096 numbers, plus one for each index slot where an index is built"
abbrev pub narrow : Fed → Bool
narrow f = ltb f.work_slots (least_work + f.index_slots)

-- "13 fewer slots than entries needed": 13 "counts the entries determined by the legs that the call would leave"
abbrev pub full : Book → Fed → Bool
full wanted f = ltb f.index_slots (length (book_entries wanted))

-- "opening 1 2 3"
unfoldable pub opening_number : (vertices longest : ℕ) → Fed → ℕ
opening_number vertices longest f =
    when (outside 1 most_vertices vertices) 1 (when (outside 1 most_longest longest) 2 (when (ltb most_edges f.edge_slots) 3 0))

-- "1 2 3 4 5 6" of a named edge, then what is left. "For a lay or lift the record and leg memory checked are the ledger's own places, k and
-- legs": these are edges of the layout, so of 3 only the slots are left
unfoldable pub named_number : Book → (from label to : ℕ) → Fed → ℕ → ℕ
named_number b from label to f later =
    when (outside 1 most_vertices b.vertices) 1
    (when (outside 1 most_longest b.longest) 2
    (when (ltb most_edges f.edge_slots) 3
    (when (narrow f) 4
    (when (leb b.vertices from || leb b.vertices to) 5
    (when (outside 1 most_label label) 6 later)))))

-- the ledger with one edge (leg) more, as a lay leaves it, and with one less, as a lift does
unfoldable pub inserted : Book → ℕ → Book
inserted b x = record { vertices = b.vertices; longest = b.longest; edges = x ∷ b.edges }

unfoldable pub removed : Book → ℕ → Book
removed b x = record { vertices = b.vertices; longest = b.longest; edges = keep (λ z. not (eqb z x)) b.edges }

-- "7 9 13"
unfoldable pub insertion_number : Book → (from label to : ℕ) → Fed → ℕ
insertion_number b from label to f =
    let x = edge_number from label to in
    named_number b from label to f
    (when (mem? x b.edges) 7
    (when (ltb f.edge_slots (length (rising (inserted b x).edges))) 9
    (when (full (inserted b x) f) 13 0)))

-- "8 13"
unfoldable pub removal_number : Book → (from label to : ℕ) → Fed → ℕ
removal_number b from label to f =
    let x = edge_number from label to in
    named_number b from label to f (when (not (mem? x b.edges)) 8 (when (full (removed b x) f) 13 0))

-- ---- the card, byte by byte

module _ (bytes : List ℕ) where
  abbrev pub byte : ℕ → ℕ
  byte i = get_or bytes i 0

  abbrev pub edge_count : ℕ
  edge_count = byte 7 * 256 + byte 8

  -- byte j of edge i
  abbrev pub edge_byte : ℕ → ℕ → ℕ
  edge_byte i j = byte (head_bytes + j + triple_bytes * i)

  abbrev pub nth_edge : ℕ → ℕ
  nth_edge i = edge_number (edge_byte i 0) (edge_byte i 1) (edge_byte i 2)

  -- edge i is none of a layout with the card's vertices
  abbrev pub stray : ℕ → Bool
  stray i = (leb (byte 5 + 1) (edge_byte i 0) || leb (byte 5 + 1) (edge_byte i 2)) || outside 1 most_label (edge_byte i 1)

  -- edge i + 1 does not rise
  abbrev pub falls : ℕ → Bool
  falls i = leb (nth_edge (i + 1)) (nth_edge i)

  unfoldable pub card_book : Book
  card_book = record { vertices = byte 5 + 1; longest = byte 6; edges = map nth_edge (up_to edge_count) }

  -- "Read card 14 15 2 16 3 9 4 13"
  unfoldable pub card_number : Fed → ℕ
  card_number f =
      when (ltb (length bytes) head_bytes || (not (eqb (byte 0) 80) || (not (eqb (byte 1) 82) || not (eqb (byte 2) 67)))) 14
      (when (not (eqb (byte 3 * 256 + byte 4) 1)) 15
      (when (outside 1 most_longest (byte 6)) 2
      (when (not (eqb (length bytes) (head_bytes + triple_bytes * edge_count)) || (any? stray (up_to edge_count) || any? falls (up_to (edge_count - 1)))) 16
      (when (ltb most_edges f.edge_slots) 3
      (when (ltb f.edge_slots edge_count) 9
      (when (narrow f) 4
      (when (full card_book f) 13 0)))))))

-- ---- what each call comes to

-- the record in a reply, or none
pub data Shown : Type 0 where
  shows : (vertices longest : ℕ) (totals : List ℕ) → Shown
  nothing : Shown

-- "the record of the places and k then held", with the totals "of its standing legs" (document 02, Four)
abbrev pub showing : Book → Shown
showing b = shows b.vertices b.longest (tally b.edges)

-- "A call is refused with the first number that applies in its order above, and is accepted otherwise": 0. What an accepted call sets; and the
-- record that is shown with a refusal
pub record Ruling : Type 0 where
  pub number : ℕ
  pub sets : Book
  pub refused : Shown

abbrev pub ruling_on : Book → Fed → Given → Ruling
-- "An accepted opening sets its record's places and k, with no legs"; refused, "the opening's record as given"
ruling_on b f (opening vertices longest totals) =
    record {
      number = opening_number vertices longest f;
      sets = record { vertices = vertices; longest = longest; edges = [] };
      refused = shows vertices longest totals;
    }
-- "An accepted lay adds its leg, an accepted lift takes its leg out; places and k stay"; refused, "the record last replied to an accepted call"
ruling_on b f (insertion from label to) =
    record {
      number = insertion_number b from label to f;
      sets = inserted b (edge_number from label to);
      refused = showing b;
    }
ruling_on b f (removal from label to) =
    record {
      number = removal_number b from label to f;
      sets = removed b (edge_number from label to);
      refused = showing b;
    }
-- "An accepted card reading sets the card's places, k and legs"; refused, "for a card none"
ruling_on b f (card bytes _) = record { number = card_number bytes f; sets = card_book bytes; refused = nothing }

abbrev pub ruling : Book → Fed → Ruling
ruling b f = ruling_on b f f.given

-- ---- the replies

-- the number, 0 if accepted, and the record
pub record LedgerReply : Type 0 where
  pub number : ℕ
  pub shown : Shown

pub record Turn : Type 0 where
  pub reply : LedgerReply
  pub book : Book

-- "A refused call changes nothing. The reply is the record of the places and k then held; after a refusal, the number, with" the record shown
abbrev pub turn_with : ℕ → Book → Book → Shown → Turn
turn_with zero b sets refused = record { reply = record { number = 0; shown = showing sets }; book = sets }
turn_with (suc n) b sets refused = record { reply = record { number = suc n; shown = refused }; book = b }

unfoldable pub turn : Book → Fed → Turn
turn b f = turn_with (ruling b f).number b (ruling b f).sets (ruling b f).refused

-- the replies of a list of calls, and what the ledger then holds
pub record Account : Type 0 where
  pub replies : List LedgerReply
  pub book : Book

unfoldable pub ledger : Book → List Fed → Account
ledger b [] = record { replies = []; book = b }
ledger b (f ∷ more) =
    let now = turn b f in
    let rest = ledger now.book more in
    record { replies = now.reply ∷ rest.replies; book = rest.book }
