use Rattle.std.proofs.Common.{◌≡◌, ◌∙◌, Bool, true, false, ap, sym, take}
use Rattle.std.specs.Prelude.{◌&&◌}
use Rattle.std.specs.List.{list_all, list_any}
use Rattle.std.proofs.lemmas.List.{take_all}
use Rattle.ob_definition.specs.Members.{Member}
use Rattle.ob_definition.specs.Orders.{terms_of}
use Rattle.ob_registry.specs.Faults.{is_unknown, names_of_terms, orders_rows}
use Rattle.ob_registry.specs.ModelFields.{member_of, named_in}
use Rattle.ob_registry.proofs.NameTests.{entries_all, entries_any, known_more, missed_at, misses, passes, read_again, tells_missed, tells_passed, tells_refused, tested_more, and_same, and_true}
use Rattle.ob_registry.proofs.model_faults.wrong_entries.Goals as goal
use Rattle.ob_registry.proofs.model_faults.wrong_entries.Goals.{then-is_ordered, else-is_ordered}

pub loop-entry-preserved : goal.loop-entry-preserved
loop-entry-preserved c =
    let members = named_in c.args.model.now.named c.args.model.now.members.items in
    let entries = c.args.entries.now in
    let member = member_of c.in-Some.member.now in
    let ordered : c.if-is_ordered.is_ordered ≡ (c.loop-entry.is_ordered && orders_rows member.def) = elim c.if-is_ordered.branch [
      | then-is_ordered w ↦ w.is_ordered-is ∙ w.orders_rows-is_ordered.ensures ∙ sym (ap (λ (b : Bool). b && orders_rows member.def) w.if-is_ordered.true)
      | else-is_ordered w ↦ w.is_ordered-is ∙ w.if-is_ordered.false ∙ sym (ap (λ (b : Bool). b && orders_rows member.def) w.if-is_ordered.false)
    ] in
    record {
      ordered = ordered ∙ tested_more (λ e. e.name.now) members (λ m. orders_rows m.def) entries c.loop-entry.entry-index _ member _ _ c.loop-entry-test.true
          (read_again entries c.loop-entry.entry-index _ c.loop-entry-test.true) (sym c.in-Some.ensures) c.loop-entry.invariant.ordered;
      known = known_more (λ e. e.name.now) members entries c.loop-entry.entry-index _ member c.loop-entry-test.true (read_again entries c.loop-entry.entry-index _ c.loop-entry-test.true) (sym c.in-Some.ensures) c.loop-entry.invariant.known;
    }

pub returns-in-None : goal.returns-in-None
returns-in-None c =
    let members = named_in c.args.model.now.named c.args.model.now.members.items in
    let entries = c.args.entries.now in
    let missed : list_any (misses (λ e. e.name.now) members) entries ≡ true =
    missed_at (λ e. e.name.now) members entries c.loop-entry.entry-index _ c.loop-entry-test.true (read_again entries c.loop-entry.entry-index _ c.loop-entry-test.true) (sym c.in-None.ensures) in
    tells_missed members (λ m. orders_rows m.def) (names_of_terms (terms_of entries)) (entries_any members entries ∙ missed)

pub returns-then-is_ordered-2 : goal.returns-then-is_ordered-2
returns-then-is_ordered-2 c =
    let members = named_in c.args.model.now.named c.args.model.now.members.items in
    let entries = c.args.entries.now in
    let test : Member → Bool = λ m. orders_rows m.def in
    let front : entries ≡ take c.loop-entry.entry-index entries = sym (take_all c.loop-entry.entry-index entries c.loop-entry-test.false) in
    let known : list_any (is_unknown members) (names_of_terms (terms_of entries)) ≡ false =
    entries_any members entries ∙ ap (list_any (misses (λ e. e.name.now) members)) front ∙ c.loop-entry.invariant.known in
    let ordered : list_all (passes (λ x. x) members test) (names_of_terms (terms_of entries)) ≡ true =
    entries_all members test entries ∙ ap (list_all (passes (λ e. e.name.now) members test)) front ∙ (and_true _ true (sym c.loop-entry.invariant.ordered ∙ c.if-is_ordered-2.true)).0 in
    tells_passed members test (names_of_terms (terms_of entries)) known ordered

pub returns-else-is_ordered-2 : goal.returns-else-is_ordered-2
returns-else-is_ordered-2 c =
    let members = named_in c.args.model.now.named c.args.model.now.members.items in
    let entries = c.args.entries.now in
    let test : Member → Bool = λ m. orders_rows m.def in
    let front : entries ≡ take c.loop-entry.entry-index entries = sym (take_all c.loop-entry.entry-index entries c.loop-entry-test.false) in
    let known : list_any (is_unknown members) (names_of_terms (terms_of entries)) ≡ false =
    entries_any members entries ∙ ap (list_any (misses (λ e. e.name.now) members)) front ∙ c.loop-entry.invariant.known in
    let unordered : list_all (passes (λ x. x) members test) (names_of_terms (terms_of entries)) ≡ false =
    entries_all members test entries ∙ ap (list_all (passes (λ e. e.name.now) members test)) front ∙ sym (and_same _) ∙ sym c.loop-entry.invariant.ordered ∙ c.if-is_ordered-2.false in
    tells_refused members test (names_of_terms (terms_of entries)) known unordered
