-- A change that is tried: edge memory is saved in work memory, the wanted edges are written in its place, and the change is settled.
use mathlib.Core.Path.{◌≡◌, refl, sym, ap, ◌∙◌}
use mathlib.Core.Bool.{true}
use mathlib.Core.List.{List, []}
use Prim.Native.Nat.{ℕ, ◌+◌, ◌≤◌}
use native.Mathlib.Omega.{arith}
use lib.ListN.{length, take, drop}
use lib.Seq.{take_at}
use Rattle.model.specs.Limits.{most_edges, least_work}
use Rattle.model.specs.Lists.{◌∈◌, Rising, filled}
use Rattle.model.specs.Edges.{Bounds}
use Rattle.model.specs.Computed.Edges.{edge?}
use Rattle.model.proofs.Memory.{length_filled}
use Rattle.calls.specs.Call.{Size, Memory, lent, Meets}
use Rattle.calls.specs.Change.{settle}
use Rattle.calls.proofs.Change.{settle_same}
use Rattle.rows.specs.Region.{saved_numbers}
use Rattle.settle.specs.Settle.{saved_in, Saves, Settleable}

-- n wanted edges, and memory as the call finds it
pub record Wanted (h : Size) (wanted : List ℕ) (m : Memory) (n : ℕ) : Type 0 where
  pub count : n ≡ length wanted
  pub header : Bounds h.vertices h.longest
  pub few : length m.edges ≤ most_edges
  pub fits : length wanted ≤ length m.edges
  pub rises : Rising wanted
  pub valid : (x : ℕ) → x ∈ wanted → edge? h.vertices x ≡ true
  pub room : least_work + length m.index ≤ length m.work

-- the wanted edges stand in edge memory, and work memory keeps what stood there before
pub record Tried (wanted : List ℕ) (m : Memory) (edges work : List ℕ) : Type 0 where
  pub edges_are : edges ≡ filled (length m.edges) wanted
  pub saves : Saves m.edges m.work work

-- edge memory can be saved
pub save_room : {h : Size} {wanted : List ℕ} {m : Memory} {n : ℕ} → Wanted h wanted m n → saved_numbers + length m.edges ≤ length m.work
save_room w = omega (arith, w.few, w.room)

-- ---- settling

module _ {h : Size} {wanted : List ℕ} {m : Memory} {n : ℕ} {edges work : List ℕ} (w : Wanted h wanted m n) (t : Tried wanted m edges work) where
  long : length edges ≡ length m.edges
  long = ap length t.edges_are ∙ length_filled (length m.edges) wanted w.fits

  front : take n edges ≡ wanted
  front = ap (take n) t.edges_are ∙ take_at wanted _ n (sym w.count)

  saved_is : saved_in work edges ≡ m.edges
  saved_is = ap (λ (k : ℕ). take k (drop saved_numbers work)) long ∙ t.saves.saved

  pub settleable : Settleable h n edges m.index work
  settleable =
      record {
        bounds = w.header;
        few = omega (arith, long, w.few);
        fits = omega (arith, long, w.count, w.fits);
        zeros = rw (long, front) t.edges_are;
        rises = rw front w.rises;
        valid = λ x k. w.valid x (rw front at k);
        room = omega (arith, w.room, t.saves.work_long);
        narrow = rw saved_is t.saves.narrow;
      }

  pub settled : {k : ℕ} {left : Memory} → m.output ≡ []
      → Meets (settle h (take n edges) (lent (saved_in work edges) m.index work)) k left → Meets (settle h wanted m) k left
  settled e s = settle_same h wanted _ m saved_is refl t.saves.work_long (sym e) (rw front at s)
