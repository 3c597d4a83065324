-- A list of calls worked out: on memory that holds anything, an opening whose record has wrong totals, card A of document 01, an edge laid again, an
-- edge laid with no work memory, and a refused opening. The ledger, which is never shown memory, tells the same replies.
use Rattle.std.specs.Prelude.{◌≡◌, List, [], ◌∷◌, ℕ, replicate}
use Rattle.model.specs.Lists.{Bytes}
use Rattle.demands.specs.Ledger.{opening, insertion, card, shows, LedgerReply, ledger}
use Rattle.demands.specs.Run.Station.{Call, Station, run, fed_all}
use Rattle.demands.specs.Terms.{blank}
use Rattle.worked_examples.specs.Trials.{A, slots_a, card_a}

abbrev pub garbage : Station
garbage = record {
  header = record { size = record { vertices = 9; longest = 9 }; totals = [] };
  edges = 7 ∷ 7 ∷ 7 ∷ [];
  index = 7 ∷ 7 ∷ 7 ∷ 7 ∷ 7 ∷ [];
}

-- the totals of no edges, of layout A, and wrong ones
abbrev pub zero_totals : List ℕ
zero_totals = replicate 8 0

abbrev pub totals_a : List ℕ
totals_a = 2 ∷ 1 ∷ 0 ∷ 0 ∷ 0 ∷ 0 ∷ 0 ∷ 0 ∷ []

abbrev pub wrong_totals : List ℕ
wrong_totals = replicate 8 9

abbrev pub calls : Bytes card_a → List Call
calls bytes =
    record { given = opening 3 2 wrong_totals; work = [] }
    ∷ record { given = card card_a bytes; work = replicate 4101 7 }
    ∷ record { given = insertion 0 1 1; work = replicate 4101 8 }
    ∷ record { given = insertion 0 1 2; work = [] }
    ∷ record { given = opening 0 2 wrong_totals; work = [] }
    ∷ []

-- accepted twice, with totals counted anew; 7 and 4, with the record last replied to an accepted call; 1, with the record as given
abbrev pub expected : List LedgerReply
expected =
    record { number = 0; shown = shows 3 2 zero_totals }
    ∷ record { number = 0; shown = shows 3 2 totals_a }
    ∷ record { number = 7; shown = shows 3 2 totals_a }
    ∷ record { number = 4; shown = shows 3 2 totals_a }
    ∷ record { number = 1; shown = shows 0 2 wrong_totals }
    ∷ []

pub record Example (bytes : Bytes card_a) : Type 0 where
  pub replies : (run garbage (calls bytes)).replies ≡ expected
  pub edges : (run garbage (calls bytes)).station.edges ≡ A.edges
  pub index : (run garbage (calls bytes)).station.index ≡ slots_a
  pub told : (ledger blank (fed_all garbage (calls bytes))).replies ≡ expected
