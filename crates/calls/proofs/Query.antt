-- A question: what its checks 1, 2, 10 and 11 leave, and what it comes to by the rule of totals (document 02, Four).
use mathlib.Core.Path.{◌≡◌, refl, sym, ◌∙◌}
use mathlib.Core.Bool.{true, false}
use mathlib.Core.List.{List}
use Prim.Native.Nat.{ℕ, zero, suc, ◌-◌, ◌<◌}
use native.Mathlib.Omega.{arith}
use lib.ListN.{get_or}
use Rattle.model.specs.Limits.{most_longest}
use Rattle.model.specs.Edges.{Bounds}
use Rattle.model.specs.Patterns.{Keyed}
use Rattle.model.specs.Query.{No, Refused}
use Rattle.model.specs.Replies.{number_of}
use Rattle.model.specs.Computed.Patterns.{keyed?}
use Rattle.model.specs.declared.Refusal.{Refusal}
use Rattle.model.proofs.Tests.{Tests, test_true, test_yields, test_any, test_eq}
use Rattle.model.proofs.Patterns.{test_keyed, keyed_up}
use Rattle.calls.specs.Checks.{vertices?, longest?, ends?}
use Rattle.calls.specs.Call.{Size, Header, Lacks, Memory, Meets}
use Rattle.calls.specs.Query.{ask_checks, ask_refusal, full_refusal, full_call, lacking?, query_call}
use Rattle.calls.proofs.Checks.{none, pass, first_is, done, also, passes, bounded, bounds_pass, test_ends}
use Rattle.calls.proofs.Calls.{refused_meets, accepted_is}
use Rattle.calls.proofs.Change.{stop_first}

pub record Allowed (h : Size) (start destination : ℕ) (pattern : List ℕ) : Type 0 where
  pub bounds : Bounds h.vertices h.longest
  pub start_vertex : start < h.vertices
  pub destination_vertex : destination < h.vertices
  pub keyed : Keyed h.longest pattern

pub allowed : (h : Size) (start destination : ℕ) (pattern : List ℕ) → vertices? h.vertices ≡ true → longest? h.longest ≡ true
    → ends? h.vertices start destination ≡ true → keyed? h.longest pattern ≡ true → Allowed h start destination pattern
allowed h start destination pattern v k ends keyed =
    let (s, t) = test_yields (test_ends h.vertices start destination) ends in
    record { bounds = bounded v k; start_vertex = s; destination_vertex = t; keyed = test_yields (test_keyed h.longest pattern) keyed }

-- a pattern within a k is within every k
pub within : {vertices longest : ℕ} {pattern : List ℕ} → Bounds vertices longest → Keyed longest pattern → Keyed most_longest pattern
within b p = keyed_up b.longest_most p

pub ask_leaves : (h : Size) (start destination : ℕ) (pattern : List ℕ) → ask_refusal h start destination pattern ≡ 0 → Allowed h start destination pattern
unfolding ask_refusal
ask_leaves h start destination pattern e = elim (passes (ask_checks h start destination pattern) tt e) [
  | also v (also k (also ends (also keyed done))) ↦ allowed h start destination pattern v k ends keyed
]

-- and they pass where all of that holds
pub ask_passes : {h : Size} {s t : ℕ} {l : List ℕ} → Bounds h.vertices h.longest → s < h.vertices → t < h.vertices → Keyed h.longest l → ask_refusal h s t l ≡ 0
unfolding ask_refusal
ask_passes {h} {s} {t} {l} b hs ht k =
    first_is (bounds_pass b (pass (test_true (test_ends h.vertices s t) (hs, ht)) (pass (test_true (test_keyed h.longest l) k) none)))

-- ---- the rule of totals

pub test_lacking : (totals pattern : List ℕ) → Tests (lacking? totals pattern) (Lacks totals pattern)
unfolding lacking?
test_lacking totals pattern = test_any (λ c. test_eq (get_or totals (c - 1) 0) 0) pattern

module _ (h : Header) (start destination : ℕ) (pattern : List ℕ) (m : Memory) where
  abbrev asked : ℕ
  asked = ask_refusal h.size start destination pattern

  -- one of those checks refuses
  pub query_refused : (r : Refusal) → ask_refusal h.size start destination pattern ≡ number_of r → Meets (query_call h start destination pattern m) (Refused (number_of r)) m
  unfolding query_call
  query_refused r e = refused_meets Refused m _ asked r e

  pub query_refuses : {n : ℕ} → ask_refusal h.size start destination pattern ≡ suc n
      → query_call h start destination pattern m ≡ record { reply = Refused (suc n); memory = m }
  unfolding query_call
  query_refuses e = rw e refl

  -- they pass: a no, or the full question
  pub query_lacking : ask_refusal h.size start destination pattern ≡ 0 → lacking? h.totals pattern ≡ true
      → query_call h start destination pattern m ≡ record { reply = No; memory = m }
  unfolding query_call
  query_lacking e q = accepted_is Refused m _ asked e ∙ rw q refl

  -- the full question begins with the same checks, so it is the question wherever no label is lacking, refused or not
  pub full_refuses : {n : ℕ} → ask_refusal h.size start destination pattern ≡ suc n
      → full_call h.size start destination pattern m ≡ record { reply = Refused (suc n); memory = m }
  unfolding full_call ask_refusal full_refusal
  full_refuses e = rw (stop_first (ask_checks h.size start destination pattern) _ e (omega arith)) refl

  pub query_full : lacking? h.totals pattern ≡ false → query_call h start destination pattern m ≡ full_call h.size start destination pattern m
  query_full q = go asked refl
    where
      go : (n : ℕ) → asked ≡ n → query_call h start destination pattern m ≡ full_call h.size start destination pattern m
      go zero e = unfold query_call in (accepted_is Refused m _ asked e ∙ rw q refl)
      go (suc n) e = query_refuses e ∙ sym (full_refuses e)
