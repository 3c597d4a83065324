-- `query_two::query_two` meets its contract: a label with total 0 is a no; else the index is asked, or what repeats itself is searched.
use mathlib.Core.Path.{◌≡◌, refl, sym, ◌∙◌}
use mathlib.Core.List.{List}
use Prim.Native.Nat.{ℕ}
use Rattle.std.proofs.Common.{rules, Err}
use Rattle.model.specs.Limits.{most_longest}
use Rattle.model.specs.Patterns.{Keyed}
use Rattle.calls.specs.Call.{Size}
use Rattle.calls.specs.QueryTwo.{two_refusal}
use Rattle.calls.proofs.Query.{within}
use Rattle.calls.proofs.QueryTwo.{two_leaves, two_refused, two_lacking}
use Rattle.query_two.proofs.query_two.Goals as goal

-- both are patterns
keyed : (size : Size) (start destination : ℕ) (first second : List ℕ) → two_refusal size start destination first second ≡ 0
    → Keyed most_longest first × Keyed most_longest second
keyed size start destination first second e =
    let a = two_leaves size start destination first second e in
    (within a.bounds a.first_keyed, within a.bounds a.second_keyed)

pub returns-in_err-check_two : goal.returns-in_err-check_two
returns-in_err-check_two c =
    let k : c.from_residual.result ≡ Err c.in_err-check_two.field-0.0 = search rules in
    rw k (two_refused _ _ _ _ _ _ c.in_err-check_two.field-0.0 (sym c.in_err-check_two.ensures))

pub is_either_lacking-requires : goal.is_either_lacking-requires
is_either_lacking-requires c = keyed _ _ _ _ _ (sym c.in_ok-check_two.ensures)

pub returns-then-is_either_lacking : goal.returns-then-is_either_lacking
returns-then-is_either_lacking c =
    rw (two_lacking _ _ _ _ _ _ (sym c.in_ok-check_two.ensures) (sym c.is_either_lacking.ensures ∙ c.if-is_either_lacking.true))
    (record { reply_is = refl; edges_after = refl; index_after = refl; work_after = refl; output_after = refl })

pub are_once-requires : goal.are_once-requires
are_once-requires c = keyed _ _ _ _ _ (sym c.in_ok-check_two.ensures)

pub ask-requires : goal.ask-requires
ask-requires c = record { passed = sym c.in_ok-check_two.ensures; both_once = sym c.are_once.ensures ∙ c.if-are_once.true }

pub returns-then-are_once : goal.returns-then-are_once
returns-then-are_once c = (c.ask.ensures _ _).is _ (sym c.is_either_lacking.ensures ∙ c.if-is_either_lacking.false)

pub search-requires : goal.search-requires
search-requires c = record { passed = sym c.in_ok-check_two.ensures; one_repeats = sym c.are_once.ensures ∙ c.if-are_once.false }

pub returns : goal.returns
returns c = c.search.ensures.is _ (sym c.is_either_lacking.ensures ∙ c.if-is_either_lacking.false)
