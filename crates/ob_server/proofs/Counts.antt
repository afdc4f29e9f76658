-- Counts of faults.
use Rattle.std.proofs.Common.{ℕ, ◌≤◌, inl, inr, arith}
use Rattle.ob_io.specs.Cause.{Rose}

-- a count that rose from a later moment on rose from an earlier one on
pub Rose-earlier : (before between now : ℕ) → before ≤ between → Rose between now → Rose before now
Rose-earlier before between now below (inl above) = inl (omega arith)
Rose-earlier before between now below (inr full) = inr full

-- and one that rose up to an earlier moment rose up to a later one
pub Rose-later : (before between now : ℕ) → between ≤ now → Rose before between → Rose before now
Rose-later before between now below (inl above) = inl (omega arith)
Rose-later before between now below (inr full) = inr (omega arith)
