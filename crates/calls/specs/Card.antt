-- The layout card (document 01): its bytes, and reading and writing it as calls on lent memory.
use Rattle.std.specs.Prelude.{Bool, true, false, ◌&&◌, List, [], ◌∷◌, ◌++◌, ℕ, suc, ◌+◌, ◌-◌, ◌*◌, ◌/◌, ◌%◌, eqb, ltb, leb, length, get_or, take, drop}
use Rattle.model.specs.Limits.{most_edges, head_bytes, triple_bytes}
use Rattle.model.specs.Edges.{edge_number, from_of, label_of, to_of, standing}
use Rattle.model.specs.Computed.Lists.{same?, spread}
use Rattle.model.specs.Computed.Edges.{label?, edge_memory?}
use Rattle.calls.specs.Checks.{vertices?, longest?, ends?, Check, first_refusal}
use Rattle.calls.specs.Call.{Size, Memory, Outcome, Returned, no_record, Wrote, Length, Refused, refusing}
use Rattle.calls.specs.Change.{handing, build_room?, settle}

-- "the mark PRC"
abbrev pub mark : List ℕ
mark = 80 ∷ 82 ∷ 67 ∷ []

-- "16-bit numbers have the high byte first."
abbrev pub word_bytes : ℕ → List ℕ
word_bytes n = n / 256 ∷ n % 256 ∷ []

abbrev pub word_at : List ℕ → ℕ → ℕ
word_at bytes i = get_or bytes i 0 * 256 + get_or bytes (suc i) 0

-- "then from, colour, to for each leg in rising order"
abbrev pub edge_bytes : ℕ → List ℕ
edge_bytes x = from_of x ∷ label_of x ∷ to_of x ∷ []

-- the number that three bytes give, and the test that they name an edge of a layout with so many vertices. (Each byte is looked at as it stands: a
-- number alone could be that of another edge.)
abbrev pub edge_at : List ℕ → ℕ → ℕ
edge_at bytes i = edge_number (get_or bytes i 0) (get_or bytes (i + 1) 0) (get_or bytes (i + 2) 0)

abbrev pub edge_at? : ℕ → List ℕ → ℕ → Bool
edge_at? vertices bytes i = ends? vertices (get_or bytes i 0) (get_or bytes (i + 2) 0) && label? (get_or bytes (i + 1) 0)

-- "Bytes: the mark PRC, a 16-bit version 1, places less one, k, a 16-bit leg count, then from, colour, to for each leg"
unfoldable pub card_of : Size → List ℕ → List ℕ
card_of size edges = mark ++ word_bytes 1 ++ ((size.vertices - 1) ∷ size.longest ∷ []) ++ word_bytes (length edges) ++ spread edge_bytes edges

-- ---- what a card says

-- "14 under 9 bytes or mark wrong"; "15 version"
abbrev pub marked? : List ℕ → Bool
marked? card = leb head_bytes (length card) && same? (take 3 card) mark

abbrev pub version? : List ℕ → Bool
version? card = eqb (word_at card 3) 1

abbrev pub size_of : List ℕ → Size
size_of card = record { vertices = get_or card 5 0 + 1; longest = get_or card 6 0 }

abbrev pub count_of : List ℕ → ℕ
count_of card = word_at card 7

-- the numbers of the edges named by bytes
unfoldable pub edges_of : List ℕ → List ℕ
edges_of [] = []
edges_of (from ∷ []) = []
edges_of (from ∷ label ∷ []) = []
edges_of (from ∷ label ∷ to ∷ more) = edge_number from label to ∷ edges_of more

-- those bytes name whole edges of a layout with so many vertices, rising from above prev
unfoldable pub rising_triples? : ℕ → ℕ → List ℕ → Bool
rising_triples? vertices prev [] = true
rising_triples? vertices prev (from ∷ []) = false
rising_triples? vertices prev (from ∷ label ∷ []) = false
rising_triples? vertices prev (from ∷ label ∷ to ∷ more) =
    (ends? vertices from to && label? label) && (ltb prev (edge_number from label to) && rising_triples? vertices (edge_number from label to) more)

-- "16 length not 9 + 3 × legs, or legs not rising legs of this layout"
unfoldable pub card_edges? : List ℕ → Bool
card_edges? card = eqb (length card) (head_bytes + triple_bytes * count_of card) && rising_triples? (size_of card).vertices 0 (drop head_bytes card)

-- ---- reading

-- what is checked of the card alone
abbrev pub card_checks : List ℕ → List Check
card_checks card = (14, marked? card) ∷ (15, version? card) ∷ (2, longest? (size_of card).longest) ∷ (16, card_edges? card) ∷ []

unfoldable pub card_refusal : List ℕ → ℕ
card_refusal card = first_refusal (card_checks card)

-- "Read card 14 15 2 16 3 9 4 13"
unfoldable pub read_refusal : List ℕ → Memory → ℕ
read_refusal card m =
    first_refusal (
    card_checks card
    ++ ((3, leb (length m.edges) most_edges) ∷ (9, leb (count_of card) (length m.edges)) ∷ (4, build_room? m) ∷ [])
    )

-- "Reading a card fills leg and index memory as if a fresh layout had received those legs; 13 looks at the finished index only."
unfoldable pub read_change : List ℕ → Memory → Outcome ℕ
read_change card m = refusing (λ n. n) m (read_refusal card m) (settle (size_of card) (edges_of (drop head_bytes card)) m)

-- "for a card, no record"
unfoldable pub read_call : List ℕ → Memory → Outcome Returned
read_call card m = handing no_record (size_of card) (read_change card m)

-- ---- writing

-- "Write card 1 2 3 17"
unfoldable pub write_refusal : Size → Memory → ℕ
write_refusal size m =
    first_refusal (
    (1, vertices? size.vertices)
    ∷ (2, longest? size.longest)
    ∷ (3, edge_memory? size.vertices m.edges)
    ∷ (17, leb (head_bytes + triple_bytes * length (standing m.edges)) (length m.output))
    ∷ []
    )

-- "A written card touches only its own length of the output, and its length is returned."
unfoldable pub write_call : Size → Memory → Outcome Wrote
write_call size m =
    let card = card_of size (standing m.edges) in
    refusing Refused m (write_refusal size m)
    (record {
      reply = Length (length card);
      memory = record { edges = m.edges; index = m.index; work = m.work; output = card ++ drop (length card) m.output };
    })
