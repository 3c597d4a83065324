-- The labels of a pattern looked at one after another: whether one from place i on has total 0.
use mathlib.Core.Path.{◌≡◌}
use mathlib.Core.Logic.{◌≢◌}
use mathlib.Core.Bool.{true, false}
use mathlib.Core.List.{List}
use Prim.Native.Nat.{ℕ, ◌+◌, ◌-◌, ◌≤◌, ◌<◌}
use native.Mathlib.Numerals.{add-one}
use lib.ListN.{length, get_or, drop, drop_of_length-le}
use lib.Seq.{drop-cons}
use borrow.Author.Tests.{eq-eqb, ne_eqb}
use Rattle.model.specs.Limits.{most_label, most_longest}
use Rattle.model.specs.Lists.{any?}
use Rattle.model.specs.Patterns.{Keyed}
use Rattle.model.proofs.Lists.{get_d_in}
use Rattle.calls.specs.Query.{lacking?}

-- the label at i is one
module _ (pattern : List ℕ) (i : ℕ) (p : Keyed most_longest pattern) (h : i < length pattern) where
  pub label_least : 1 ≤ get_or pattern i 0
  label_least = (p.labels _ (get_d_in pattern i h)).0

  pub label_most : get_or pattern i 0 ≤ most_label
  label_most = (p.labels _ (get_d_in pattern i h)).1

module _ (totals pattern : List ℕ) (i : ℕ) where
  pub lacking_here : i < length pattern → get_or totals (get_or pattern i 0 - 1) 0 ≡ 0 → lacking? totals (drop i pattern) ≡ true
  unfolding lacking? any?
  lacking_here h e = rw (drop-cons pattern i 0, eq-eqb (get_or totals (get_or pattern i 0 - 1) 0) 0 e)

  pub lacking_next : i < length pattern → get_or totals (get_or pattern i 0 - 1) 0 ≢ 0 → lacking? totals (drop i pattern) ≡ lacking? totals (drop (i + 1) pattern)
  unfolding lacking? any?
  lacking_next h n = rw (add-one, drop-cons pattern i 0, ne_eqb (get_or totals (get_or pattern i 0 - 1) 0) 0 n)

  pub lacking_none : length pattern ≤ i → lacking? totals (drop i pattern) ≡ false
  unfolding lacking? any?
  lacking_none h = rw (drop_of_length-le pattern h)

pub ruleset lacking_steps = (label_least, label_most, lacking_here, lacking_next, lacking_none)
