use Rattle.std.proofs.Common.{rules, ◌≡◌, ℕ, ◌+◌, ◌≤◌, List, ◌++◌, length, take, sym, ap, ◌∙◌, subst}
use Rattle.std.proofs.Math.Seq.{take-append-add, length-take-le}
use Rattle.std.proofs.lemmas.List.{take-append-le}
use Rattle.std.proofs.KnownBytes.{Consumes-trans}
use Rattle.std.specs.Io.KnownBytes.{Consumes}
use Rattle.card_input.proofs.fill.Goals as goal

-- what a turn put behind the front stands behind it
behind : (n k : ℕ) (room part back : List ℕ) → n ≤ length room → k ≤ length part
    → take (n + k) (take n room ++ (part ++ back)) ≡ take n room ++ take k part
behind n k room part back u v =
    ap (λ m. take (m + k) (take n room ++ (part ++ back))) (sym (length-take-le n room u))
    ∙ (take-append-add (take n room) (part ++ back) k ∙ ap (λ l. take n room ++ l) (take-append-le k part back v))

pub loop-n-preserved : goal.loop-n-preserved
loop-n-preserved g c = record {
  within = search rules;
  same = search rules;
  came =
      subst (Consumes (g.R.Read.remaining c.args.input.now) (g.R.Read.remaining c.read.new.self))
      (sym (behind c.loop-n.n c.in_ok-got.got c.loop-n.room c.read.new.buf _ c.loop-n.invariant.within c.in_ok-got.ensures.bound.0))
      (Consumes-trans _ (g.R.Read.remaining c.loop-n.input) _ _ _ c.loop-n.invariant.came c.in_ok-got.ensures.bytes.0);
}

pub returns-clause-within : goal.returns-clause-within
returns-clause-within g c = c.loop-n.invariant.within
