-- What is lit, as the call has it: for the route's edges, and for the walk back from a place.
use mathlib.Core.Path.{◌≡◌, refl, sym, ap, ◌∙◌, subst}
use mathlib.Core.List.{List, [], ◌++◌, reverse}
use Prim.Native.Nat.{ℕ, ◌≤◌, ◌<◌}
use native.Mathlib.Omega.{arith}
use lib.ListN.{length, drop, length-reverse}
use Rattle.model.specs.Routes.{Yes as RoutedYes}
use Rattle.model.specs.Computed.Edges.{bare}
use Rattle.model.specs.Computed.Routes.{route_of}
use Rattle.model.specs.declared.Refusal.TheVariants.{WalkMemory}
use Rattle.model.specs.declared.Refusal.{Refusal}
use Rattle.std.specs.Prelude.{Option, Some, None, Result, Ok, Err, IfSome}
use Rattle.model.proofs.RouteSearch.{route_is, route_none}
use Rattle.calls.proofs.Route.{lighting_none, lighting_yes, lighting_short}
use Rattle.frontier.specs.Search.{Searchable}
use Rattle.route_search.specs.Traced.{Chain, Traced}
use Rattle.route_walk.specs.Walk.{Linked, CountsLinks, WritesWalk, Lights, LightsAt}
use Rattle.route_walk.proofs.Tracing.{chain_some}

lights_none : (walk : List ℕ) → Lights [] walk walk (Ok None)
lights_none walk = record { is = λ m e. rw (lighting_none m) (refl, sym e) }

lights_short : (es walk : List ℕ) → length walk < length es → Lights es walk walk (Err WalkMemory)
lights_short es walk h = record { is = λ m e. rw (lighting_short es m (omega (arith, ap length e))) (refl, sym e) }

lights_yes : (es walk : List ℕ) {n : ℕ} → n ≡ length es → 1 ≤ n → n ≤ length walk → Lights es walk (es ++ drop (length es) walk) (Ok (Some n))
lights_yes es walk e some h = record {
  is = λ m d. rw (lighting_yes es m (omega arith) (omega (arith, ap length d))) (ap RoutedYes e, ap (λ (l : List ℕ). es ++ drop (length es) l) (sym d));
}

-- ---- the walk back from a place

module _ (w : List ℕ) {place : Option ℕ} (walk : List ℕ) where
  pub light_none : place ≡ None → LightsAt w place walk walk (Ok None)
  light_none e = rw e (lights_none walk)

  module _ {k n : ℕ} (is : place ≡ Some k) (linked : IfSome place (Linked w)) (count : CountsLinks w k n) where
    some : 1 ≤ k
    some = let l = rw is at linked in l.positive

    long : (p : List ℕ) → Chain w k p → n ≡ length (reverse p)
    long p c = count.is p c ∙ sym (length-reverse p)

    pub light_short : length walk < n → LightsAt w place walk walk (Err WalkMemory)
    light_short h = rw is (λ p c. lights_short (reverse p) walk (omega (arith, long p c)))

    pub light_yes : {walk' : List ℕ} → n ≤ length walk → WritesWalk w k walk walk' → LightsAt w place walk walk' (Ok (Some n))
    light_yes {walk'} h f = rw is (λ p c. yes p c)
      where
        yes : (p : List ℕ) → Chain w k p → Lights (reverse p) walk walk' (Ok (Some n))
        yes p c =
            let is = f.is p c ∙ ap (λ (m : ℕ). reverse p ++ drop m walk) (sym (length-reverse p)) in
            subst (λ (l : List ℕ). Lights (reverse p) walk l (Ok (Some n))) (sym is) (lights_yes (reverse p) walk (long p c) (omega (arith, count.is p c, chain_some c some)) h)

module _ {vertices : ℕ} {edges l : List ℕ} {s t : ℕ} (r : Searchable vertices edges l s t) {w : List ℕ} where
  pub traced_linked : {place : Option ℕ} → Traced (bare vertices edges) l s t w place → IfSome place (Linked w)
  traced_linked {place = None} h = tt
  traced_linked {place = Some place} h =
      let f = h.found in
      record { long = h.long; positive = f.positive; small = f.small; walk = f.walk; chain = f.chain }

  -- the walk that is traced is the route
  pub traced_lights : {place : Option ℕ} → Traced (bare vertices edges) l s t w place → {walk walk' : List ℕ} {reply : Result (Option ℕ) Refusal} → LightsAt w place walk walk' reply
      → Lights (route_of (bare vertices edges) l s t) walk walk' reply
  traced_lights {place = None} h {walk} {walk'} {reply} k =
      subst (λ (es : List ℕ). Lights es walk walk' reply) (sym (route_none (bare vertices edges) l s t r.vertices_small r.short.least r.rises r.start r.destination h.found)) k
  traced_lights {place = Some place} h {walk} {walk'} {reply} k =
      subst (λ (es : List ℕ). Lights es walk walk' reply)
      (sym (route_is (bare vertices edges) l s t r.vertices_small r.short.least r.rises r.start r.destination h.found.route)) (k h.found.walk h.found.chain)
