-- The table's laws: one computed test over the whole table, and the lemma that carries it to each entry.
use mathlib.Core.Path.{◌≡◌, refl, sym, ap, ◌∙◌}
use mathlib.Core.Logic.{inl, inr}
use mathlib.Core.List.{List, [], map}
use Prim.Native.Nat.{ℕ, ◌+◌, ◌-◌, ◌≤◌, ◌<◌}
use native.Mathlib.Decide.{dec_lt}
use native.Mathlib.Omega.{arith}
use lib.Dec.{T}
use lib.ListN.{length, take, get_or}
use lib.Seq.{get_or-take}
use Rattle.model.specs.Limits.{table_longest, table_size}
use Rattle.model.specs.Lists.{from, Sorted}
use Rattle.model.specs.Patterns.{Keyed, code}
use Rattle.model.specs.Computed.Lists.{spread}
use Rattle.model.specs.Computed.Patterns.{keyed?, min_repeat, folded_length, words, keyed_patterns}
use Rattle.model.specs.Computed.Table.{repeat_lengths, shorter, ordinal_from, place}
use Rattle.model.proofs.Tests.{same_out, test_yields, both_ways}
use Rattle.model.proofs.Lists.{length_from_lem, at_map, at_from, get_d_map, sorted_as}
use Rattle.model.proofs.Patterns.{test_keyed, min_repeat_unique, folded_length_lem, keyed_in, keyed_out, keyed_rise, shorter_code}
use Rattle.model.proofs.Table.{stands}
use Rattle.patterns.proofs.Lengths.{folded_not}
use Rattle.lookup.specs.Table.{tested_entries, tested?, starts_right?, looked_up, Precedes, TableMeaning}

-- there are 4,680 patterns
pub many : length (keyed_patterns table_longest) ≡ table_size
unfolding keyed_patterns words spread from
many = refl

-- the test carried to each entry
pub entry_is : (table : List ℕ) → T (tested? table) → (i : ℕ) → i < table_size → get_or table i 0 ≡ get_or repeat_lengths i 0
unfolding tested?
entry_is table t i h =
    let looked : i < tested_entries = omega arith in
    sym (get_or-take tested_entries table i 0 looked)
    ∙ ap (λ (l : List ℕ). get_or l i 0) (same_out (take tested_entries table) (take tested_entries repeat_lengths) t)
    ∙ get_or-take tested_entries repeat_lengths i 0 looked

-- where the patterns of n labels start
pub start_is : (starts : List ℕ) → T (starts_right? starts) → (n : ℕ) → 1 ≤ n → n ≤ table_longest → get_or starts (n - 1) 0 ≡ shorter n
unfolding starts_right?
start_is starts t n h k =
    let number : 1 + (n - 1) ≡ n = omega arith in
    let inside : n - 1 < length (from 1 table_longest) = omega (arith, length_from_lem 1 table_longest) in
    ap (λ (l : List ℕ). get_or l (n - 1) 0) (same_out starts (map shorter (from 1 table_longest)) t)
    ∙ get_d_map shorter (from 1 table_longest) (n - 1) inside
    ∙ ap shorter (at_from 1 table_longest (n - 1) (omega arith) ∙ number)

-- the place of a pattern: a sum of the shorter ones, and the labels as digits
pub place_of : (l : List ℕ) → place l ≡ shorter (length l) + ordinal_from 0 l
unfolding place
place_of l = refl

pub place_inside : (l : List ℕ) → Keyed table_longest l → place l < table_size
place_inside l p = omega (arith, (stands table_longest l p).inside, many)

-- the definition's entry there is the length of the minimum repeat
pub defined_there : (l : List ℕ) → Keyed table_longest l → get_or repeat_lengths (place l) 0 ≡ length (min_repeat l)
unfolding repeat_lengths
defined_there l p =
    let s = stands table_longest l p in
    at_map [] 0 (λ l. length (min_repeat l)) (keyed_patterns table_longest) (place l) s.inside ∙ ap (λ (l : List ℕ). length (min_repeat l)) s.there

-- which is what the recursion finds
pub found : (l : List ℕ) → Keyed table_longest l → get_or repeat_lengths (place l) 0 ≡ folded_length l
found l p = defined_there l p ∙ sym (folded_length_lem l p)

-- ---- what the table is held to

order : Sorted Precedes (keyed_patterns table_longest)
order = sorted_as (λ l m i j h. precedes (keyed_out table_longest i) (keyed_out table_longest j) h) (keyed_rise table_longest)
  where
    precedes : {l m : List ℕ} → Keyed table_longest l → Keyed table_longest m → code l < code m → Precedes l m
    precedes {l} {m} p q h = elim (dec_lt (length l) (length m)) [
      | yes a ↦ inl a
      | no a ↦ elim (dec_lt (length m) (length l)) [ yes b ↦ absurd (omega (arith, shorter_code m l q.labels p.labels b)) | no b ↦ inr (omega arith, h) ]
    ]

agrees : (table : List ℕ) → T (tested? table) → (l : List ℕ) → looked_up table l ≡ folded_length l
unfolding looked_up
agrees table t l = both_ways (keyed? table_longest l)
    (λ e. let p = test_yields (test_keyed table_longest l) e in rw e (entry_is table t (place l) (place_inside l p) ∙ found l p))
    (λ e. rw e (folded_not l e).0)

pub table_meaning : TableMeaning
table_meaning = record {
  many = many;
  each = λ l. (keyed_out table_longest, keyed_in table_longest);
  order = order;
  once = stands table_longest;
  entry = λ table t l m p r. entry_is table t (place l) (place_inside l p) ∙ defined_there l p ∙ ap length (min_repeat_unique l m p.long r);
  agrees = agrees;
}
