-- From what the checks leave to the search, and from what it finds to the call's reply.
use mathlib.Core.Path.{◌≡◌, refl, ap, ◌∙◌}
use mathlib.Core.Bool.{Bool, false}
use Rattle.std.specs.Prelude.{Ok}
use mathlib.Core.List.{List}
use Prim.Native.Nat.{ℕ, ◌≤◌}
use native.Mathlib.Omega.{arith}
use lib.ListN.{length, take}
use Rattle.model.specs.Limits.{enough_levels}
use Rattle.model.specs.Edges.{standing}
use Rattle.model.specs.States.{Refused}
use Rattle.model.specs.Replies.{number_of, reply_of}
use Rattle.model.specs.Computed.Edges.{bare}
use Rattle.model.specs.Computed.Levels.{is_yes?}
use Rattle.model.specs.declared.SearchReply.{SearchReply}
use Rattle.model.specs.declared.SearchReply.TheVariants.{Yes, No, Spent}
use Rattle.model.specs.declared.Refusal.{Refusal}
use Rattle.model.proofs.Search.{reply_as, yes_runs}
use Rattle.edges.proofs.Memory.{Scans}
use Rattle.calls.specs.Call.{Size, Memory, Meets}
use Rattle.calls.specs.Search.{search_refusal, search_call}
use Rattle.calls.proofs.Calls.{refused_meets, accepted_is}
use Rattle.checks.proofs.LayoutChecks.{layout_header, layout_memory}
use Rattle.query_checks.specs.SearchChecks.{SearchPasses}
use Rattle.frontier.specs.Search.{Searchable}
use Rattle.frontier.proofs.Search.{searchable_over}
use Rattle.level_search.specs.Run.{Searches, Tells}

module _ {h : Size} {s t : ℕ} {pattern : List ℕ} {m : Memory} {n : ℕ} (p : SearchPasses h s t pattern m n) where
  edge_memory : Scans h.vertices m.edges n
  edge_memory = layout_memory p.layout

  pub part_edges : n ≤ length m.edges
  part_edges = edge_memory.within

  pub searchable : Searchable h.vertices (take n m.edges) pattern s t
  searchable = searchable_over (layout_header p.layout) edge_memory p.keyed p.start_vertex p.destination_vertex

  pub meets : {limit : ℕ} {r : SearchReply} {work' : List ℕ} → Searches h.vertices (take n m.edges) pattern s t limit m.work r work'
      → Meets (search_call h s t pattern limit m) (reply_of (Ok r)) (record { edges = m.edges; index = m.index; work = work'; output = m.output })
  unfolding search_call
  meets {limit} f = rw (accepted_is Refused m _ (search_refusal h s t pattern m) p.is) (record {
    reply_is = f.reply ∙ rw edge_memory.front (reply_as h.vertices (standing m.edges) pattern t 0 h.longest s limit);
    edges_after = refl;
    index_after = refl;
    work_after = f.work_after;
    output_after = refl;
  })

-- a refusal leaves everything as it was
pub search_refused : (h : Size) (s t : ℕ) (pattern : List ℕ) (limit : ℕ) (m : Memory) (r : Refusal) → search_refusal h s t pattern m ≡ number_of r
    → Meets (search_call h s t pattern limit m) (Refused (number_of r)) m
unfolding search_call
search_refused h s t pattern limit m r e = refused_meets Refused m _ (search_refusal h s t pattern m) r e

-- ---- with levels enough

-- a reply that is no yes
pub not_yes : (r : SearchReply) → ((n : ℕ) → r ≡ Yes n → ⊥) → false ≡ is_yes? (reply_of (Ok r))
not_yes (Yes n) h = absurd (h n refl)
not_yes (No n) h = refl
not_yes (Spent n) h = refl

-- whether the reply is yes
pub finds : {vertices : ℕ} {edges l : List ℕ} {s t : ℕ} {work work' : List ℕ} {r : SearchReply} {found : Bool} → Searchable vertices edges l s t
    → Searches vertices edges l s t enough_levels work r work' → found ≡ is_yes? (reply_of (Ok r)) → Tells vertices edges l s t work found work'
finds {vertices} {edges} {l} {s} {t} p f e = record {
  is = e ∙ ap is_yes? f.reply
      ∙ yes_runs (bare vertices edges) l p.vertices_small p.short.least s t p.start p.destination enough_levels (omega arith) p.short.most;
  work_after = f.work_after;
}
