-- Demand 3 of the calls as definitions: for every list of openings, lays, lifts and card readings, refused ones included, each reply and every
-- slot of edge (leg) and index memory is what the ledger gives, and no entry of the index can be spared. (`traces` states it of `store`.)
use Rattle.std.specs.Prelude.{◌≡◌, Bool, List, ◌∷◌, ℕ, T, length}
use Rattle.model.specs.Lists.{◌∈◌, keep, filled}
use Rattle.demands.specs.Ledger.{rising, book_entries, ruling, Account, ledger}
use Rattle.demands.specs.Terms.{blank, Begins, standing_graph, Missed}
use Rattle.demands.specs.Demand2.{Right}
use Rattle.demands.specs.Run.Station.{Call, Station, run, fed_by, fed_all}

pub record Demand3 (s : Station) (calls : List Call) : Type 0 where
  -- what the ledger comes to
  pub account : Account
  pub is : account ≡ ledger blank (fed_all s calls)
  pub replies : (run s calls).replies ≡ account.replies
  pub edges : (run s calls).station.edges ≡ filled (length s.edges) (rising account.book.edges)
  pub index : (run s calls).station.index ≡ filled (length s.index) (book_entries account.book)
  -- "Where entries are struck out, the others close up in order and zeros follow": f says which are kept, e is one that is not
  pub needed : (f : ℕ → Bool) (e : ℕ) → e ∈ book_entries account.book → ¬ T (f e)
      → Missed (run s calls).station.header account.book (filled (length s.index) (keep f (book_entries account.book)))
  -- and of demand 2: questions put afterwards are answered rightly
  pub right : Right (run s calls).station.header (run s calls).station.edges (run s calls).station.index (standing_graph account.book)

-- for every list that begins with an opening or card reading that the ledger accepts, whatever edge, index and work memory hold
abbrev pub Demand3Holds : Type 0
Demand3Holds =
    (s : Station) (first : Call) (more : List Call) → Begins first.given
    → (ruling blank (fed_by (length s.edges) (length s.index) first)).number ≡ 0 → Demand3 s (first ∷ more)
