-- `route::run` meets its contract: the front of work memory is zeroed for the search and read, and then the whole is zeroed.
use mathlib.Core.Path.{ap, ◌∙◌}
use Prim.Native.Nat.{ℕ}
use lib.ListN.{replicate}
use lib.Seq.{length_front}
use Rattle.model.specs.Limits.{least_work}
use Rattle.frontier.proofs.Front.{front_cleared}
use Rattle.route_walk.proofs.Lighting.{traced_lights}
use Rattle.route.proofs.run.Goals as goal

pub find-place-requires-clause-zeros : goal.find-place-requires-clause-zeros
find-place-requires-clause-zeros c = front_cleared c.args.work.now c.requires.1 (c.fill.ensures.after (λ y e. e))

pub returns : goal.returns
returns c = record {
  lights = traced_lights c.requires.0 c.find-place.ensures c.light-reply.ensures;
  work_after = c.fill-2.ensures.after (λ y e. e) ∙ ap (λ (n : ℕ). replicate n 0) (length_front c.args.work.now _ least_work (c.find-place.auto.work ∙ c.fill.ensures.len));
}
