-- The fault that was found is that of the calls.
use Rattle.std.proofs.Common.{◌≡◌, ℕ, List, Option, Some, sym, ap, ◌∙◌}
use Rattle.kes_text.specs.declared.refusal.Refusal.{Refusal}
use Rattle.mentions.specs.Setting.{Setting}
use Rattle.reach.specs.declared.calls.Call.{Call}
use Rattle.reach.specs.Calls.{calls_of, edges_of}
use Rattle.reach.specs.Starts.{starts_of}
use Rattle.reach.specs.Faults.{fault_of}
use Rattle.reach.specs.Reach.{reached_by, unless}
use Rattle.reach.proofs.reached.reached_by.Goals as goal

pub returns-in-Some : goal.returns-in-Some
returns-in-Some c =
    let s = c.args.s.now in
    let pairs = c.args.pairs in
    let edges : c.as_slice-edges.result.now ≡ edges_of s pairs = c.as_slice-edges.ensures ∙ c.in_ok-all.ensures.edges in
    let starts : c.as_slice.result.now ≡ starts_of s.files pairs = c.as_slice.ensures ∙ c.in_ok-starts.ensures ∙ ap (λ (t : Setting). starts_of t.files pairs) c.s.view_is in
    let calls : c.as_slice-calls.result.now ≡ calls_of s pairs = c.as_slice-calls.ensures.value ∙ c.in_ok-all.ensures.calls in
    let found : Some c.in-Some.fault ≡ fault_of (edges_of s pairs) (starts_of s.files pairs) (calls_of s pairs)
    = sym c.in-Some.is ∙ c.in_ok-found.ensures ∙ ap (λ (x : List (List ℕ)). fault_of x c.as_slice.result.now c.as_slice-calls.result.now) edges
    ∙ ap (λ (x : List ℕ). fault_of (edges_of s pairs) x c.as_slice-calls.result.now) starts ∙ ap (fault_of (edges_of s pairs) (starts_of s.files pairs)) calls in
    ap (λ (fault : Option Refusal). unless fault (reached_by s pairs)) found
