use Rattle.std.proofs.Common.{◌≡◌, ◌||◌, ℕ, List, take}
use Rattle.std.specs.BTreeSet.{contains_text}
use Rattle.ob_definition.specs.Definitions.{is_one_of}
use Rattle.ob_definition.specs.Findings.{Adds}
use Rattle.ob_definition.specs.Making.{AreLinkFaults, AreLinks, with_links}
use Rattle.ob_definition.specs.Members.{given_members, links_from, names_of}
use Rattle.ob_definition.proofs.made.link_fields.Given as goal

abbrev pub invariant-loop-parent : goal.invariant-loop-parent
invariant-loop-parent l =
    AreLinks (links_from l.gathering l.model (names_of (given_members l.model)) (take l.parent-index l.parent-items)) l.links.items
    × ((name : List ℕ) → is_one_of (with_links l.gathering l.model (names_of (given_members l.model)) (take l.parent-index l.parent-items)) name
    ≡ (is_one_of (names_of (given_members l.model)) name || contains_text l.names name))
    × Adds (AreLinkFaults l.gathering l.model (names_of (given_members l.model)) (take l.parent-index l.parent-items)) l.initial.first l.first
