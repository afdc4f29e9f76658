-- The names that were passed are to come before the others.
use Rattle.std.proofs.Common.{◌≡◌, ◌++◌, drop, map, reverse}
use Rattle.toml.specs.View.{view}
use Rattle.ob_module.specs.Meaning.{text_of}
use Rattle.ob_module.proofs.coming.Coming.put_depends.Given as goal

abbrev pub invariant-loop-place : goal.invariant-loop-place
invariant-loop-place l = reverse l.self-inside.names.items ≡ map (λ item. text_of (view item)) (drop l.place l.names) ++ l.fn.self
