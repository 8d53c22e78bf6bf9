use Rattle.std.proofs.Common.{◌≡◌, ◌∷◌, ◌++◌, List, None, string_bytes, string_cmp, arith, ◌∙◌, subst}
use Rattle.std.proofs.lemmas.Grind.{common_steps}
use Rattle.std.specs.Map.{keys_of}
use Rattle.std.specs.List.Sorted.{IsStrictlySortedBy}
use Rattle.toml.specs.View.{view, members_view}
use Rattle.toml.proofs.Views.{Entry}
use Rattle.job_file.specs.Keys.{first_failing}
use Rattle.job_file.specs.ConfiguredSets.{sets_in, is_set}
use Rattle.job_file.proofs.SetFacts.{AllNew, set_more, failing_none, new_more, ascend_parts}
use Rattle.job_file.proofs.sets.add_sets.Goals as goal

pub members-preserved : goal.members-preserved
members-preserved c =
    let (can, finite, ranks, same, good, order, new) = c.members.invariant in
    let e : Entry = (c.in-Some.name.now, c.in-Some.value.now) in
    let iter : c.members.name-iterator ≡ e ∷ c.next.new.self = grind (arith, common_steps) in
    let here = subst (λ (es : List Entry). first_failing (is_set c.members.psets.ranks) (members_view es) ≡ None) iter good in
    let all = subst (λ (es : List Entry). c.members.psets.sets ++ sets_in c.members.psets.ranks (members_view es) ≡ c.args.psets.now.sets ++ sets_in c.args.psets.now.ranks (members_view c.args.table.now.entries)) iter same in
    let sorted = ascend_parts e c.next.new.self (subst (λ (es : List Entry). IsStrictlySortedBy string_cmp (keys_of es)) iter order) in
    let fresh = subst (λ (es : List Entry). AllNew c.members.psets.sets es) iter new in
    let added = rw c.as_str.ensures.value at c.in_ok-add_set.ensures.added in
    let more = set_more (string_bytes c.in-Some.name.now) (view c.in-Some.value.now) (members_view c.next.new.self) c.members.psets c.add_set.new.psets added in (
      tt,
      tt,
      c.add_set.ensures.ranks ∙ ranks,
      rw c.add_set.ensures.ranks (more ∙ all),
      rw c.add_set.ensures.ranks (failing_none (is_set c.members.psets.ranks) (string_bytes c.in-Some.name.now) (view c.in-Some.value.now) (members_view c.next.new.self) here).1,
      sorted.1,
      rw added (new_more c.members.psets.sets (string_bytes c.in-Some.name.now) _ c.next.new.self fresh.1 sorted.0),
    )

pub add_set-requires-clause-good : goal.add_set-requires-clause-good
add_set-requires-clause-good c =
    let (can, finite, ranks, same, good, order, new) = c.members.invariant in
    let e : Entry = (c.in-Some.name.now, c.in-Some.value.now) in
    let iter : c.members.name-iterator ≡ e ∷ c.next.new.self = grind (arith, common_steps) in
    let here = subst (λ (es : List Entry). first_failing (is_set c.members.psets.ranks) (members_view es) ≡ None) iter good in
    rw c.as_str.ensures.value (failing_none (is_set c.members.psets.ranks) (string_bytes c.in-Some.name.now) (view c.in-Some.value.now) (members_view c.next.new.self) here).0
