-- The entries for the steps from one start: some ends after others.
use mathlib.Core.Path.{◌≡◌, refl, sym, ap, subst, ◌∙◌}
use mathlib.Core.Logic.{◌⊎◌, inl, inr, ⊎_elim, ◌↔◌}
use Prim.Native.Nat.{ℕ, ◌<◌}
use Rattle.model.specs.Limits.{most_vertices, hub_unit}
use Rattle.model.specs.Build.Hubs.{joining, Direct}
use Rattle.model.proofs.Joins.{joining_same}

module _ {R S : ℕ → ℕ → Type 0} {c s e : ℕ} where
  pub direct_as : ((t : ℕ) → R s t → S s t) → Direct R c s e → Direct S c s e
  direct_as f d = record { end = d.end; related = f _ d.related; is = d.is }

  -- u is one end more
  pub direct_more : (u : ℕ) → ((t : ℕ) → (R s t ⊎ (t ≡ u)) ↔ S s t) → (Direct R c s e ⊎ (e ≡ joining c s u)) ↔ Direct S c s e
  direct_more u f = (
    ⊎_elim (direct_as (λ t r. (f t).0 (inl r))) (λ q. record { end = u; related = (f u).0 (inr refl); is = q }),
    λ d. ⊎_elim (λ r. inl (record { end = d.end; related = r; is = d.is })) (λ q. inr (d.is ∙ ap (joining c s) q)) ((f d.end).1 d.related),
  )

-- the ends of two relations
pub direct_or : {R S T : ℕ → ℕ → Type 0} {c s e : ℕ} → ((t : ℕ) → (R s t ⊎ S s t) ↔ T s t) → (Direct R c s e ⊎ Direct S c s e) ↔ Direct T c s e
direct_or f = (
  ⊎_elim (direct_as (λ t r. (f t).0 (inl r))) (direct_as (λ t r. (f t).0 (inr r))),
  λ d. ⊎_elim
      (λ r. inl (record { end = d.end; related = r; is = d.is }))
      (λ r. inr (record { end = d.end; related = r; is = d.is }))
      ((f d.end).1 d.related),
)

-- it is a new entry if u is a new end
pub direct_new : {R : ℕ → ℕ → Type 0} {c s : ℕ} (u : ℕ) → c < hub_unit → s < most_vertices → u < most_vertices → ((t : ℕ) → R s t → t < most_vertices)
    → (R s u → ⊥) → Direct R c s (joining c s u) → ⊥
direct_new {R} {c} {s} u hc hs hu small n d =
    n (subst (R s) (sym (joining_same c s u s d.end hc hs hu hs (small _ d.related) d.is).1) d.related)
