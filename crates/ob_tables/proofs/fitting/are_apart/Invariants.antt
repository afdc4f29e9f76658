use Rattle.std.proofs.Common.{◌+◌, ◌≡◌, ◌<◌, ℕ, false, get_or, length, take}
use Rattle.ob_base.specs.Limits.{max_fields}
use Rattle.ob_tables.proofs.Apart.{AreApart, is_met}
use Rattle.ob_tables.proofs.fitting.are_apart.Given as goal

abbrev pub invariant-loop-field : goal.invariant-loop-field
invariant-loop-field l = record {
  marks : length l.met ≡ max_fields + 1;
  marked : (n : ℕ) → n < length l.met → get_or l.met n false ≡ is_met (take l.field-index l.values) n;
  apart : AreApart (take l.field-index l.values);
}
