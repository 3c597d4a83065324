-- From what is lit to the call's reply.
use mathlib.Core.Path.{◌≡◌, refl, sym, ap, ◌∙◌, subst}
use mathlib.Core.List.{List}
use Prim.Native.Nat.{ℕ}
use lib.ListN.{take}
use Rattle.model.specs.Edges.{standing}
use Rattle.model.specs.Replies.{number_of, routed_of}
use Rattle.model.specs.Routes.{Refused}
use Rattle.model.specs.Computed.Edges.{bare}
use Rattle.model.specs.Computed.Routes.{route_of}
use Rattle.model.specs.declared.Refusal.{Refusal}
use Rattle.std.specs.Prelude.{Option, Result}
use Rattle.model.proofs.RouteSearch.{route_as}
use Rattle.calls.specs.Call.{Size, graph_of, Memory, lent, Meets}
use Rattle.calls.specs.Search.{search_refusal}
use Rattle.calls.specs.Route.{route_call}
use Rattle.calls.proofs.Calls.{refused_meets, accepted_is}
use Rattle.calls.proofs.Route.{lighting_leaves}
use Rattle.checks.proofs.LayoutChecks.{layout_memory}
use Rattle.query_checks.specs.SearchChecks.{SearchPasses}
use Rattle.route_walk.specs.Walk.{Lights}
use Rattle.route.specs.Run.{Shows}

module _ (h : Size) (s t : ℕ) (pattern : List ℕ) (m : Memory) where
  -- the checks do not look at walk memory
  checks_same : search_refusal h s t pattern m ≡ search_refusal h s t pattern (lent m.edges m.index m.work)
  unfolding search_refusal
  checks_same = refl

  pub checks_pass : {n : ℕ} → SearchPasses h s t pattern (lent m.edges m.index m.work) n → SearchPasses h s t pattern m n
  checks_pass p = record {
    is = checks_same ∙ p.is;
    layout = p.layout;
    room = p.room;
    start_vertex = p.start_vertex;
    destination_vertex = p.destination_vertex;
    keyed = p.keyed;
  }

  -- a refusal leaves everything as it was
  pub route_refused : (r : Refusal) → search_refusal h s t pattern (lent m.edges m.index m.work) ≡ number_of r → Meets (route_call h s t pattern m) (Refused (number_of r)) m
  unfolding route_call
  route_refused r e = refused_meets Refused m _ (search_refusal h s t pattern m) r (checks_same ∙ e)

pub route_meets : {h : Size} {s t : ℕ} {pattern : List ℕ} {m : Memory} {n : ℕ} → SearchPasses h s t pattern m n → {r : Result (Option ℕ) Refusal} {walk' work' : List ℕ}
    → Shows (bare h.vertices (take n m.edges)) pattern s t m.output m.work r walk' work'
    → Meets (route_call h s t pattern m) (routed_of r) (record { edges = m.edges; index = m.index; work = work'; output = walk' })
unfolding route_call
route_meets {h} {s} {t} {pattern} {m} {n} p {r} {walk'} f =
    let es : route_of (bare h.vertices (take n m.edges)) pattern s t ≡ route_of (graph_of h (standing m.edges)) pattern s t
    = ap (λ (l : List ℕ). route_of (bare h.vertices l) pattern s t) (layout_memory p.layout).front ∙ route_as h.vertices (standing m.edges) pattern 0 h.longest s t in
    let (a, b) = (subst (λ (l : List ℕ). Lights l m.output walk' r) es f.lights).is m refl in
    let l = lighting_leaves (route_of (graph_of h (standing m.edges)) pattern s t) m in
    rw (accepted_is Refused m _ (search_refusal h s t pattern m) p.is)
    (record { reply_is = a; edges_after = sym l.edges_same; index_after = sym l.index_same; work_after = f.work_after ∙ sym l.work_zero; output_after = b })
