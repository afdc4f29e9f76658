-- No more models than entries.
use Rattle.std.proofs.Common.{ℕ, suc, ◌+◌, ◌≤◌, Bool, true, false, cond, List, [], ◌∷◌, length, Option, Some, None, arith}
use Rattle.std.specs.Str.{bytes_eq}
use Rattle.ob_definition.specs.declared.definition.ModelDef.{ModelDef}
use Rattle.ob_definition.specs.Gathered.{Gathered, added, gathered, gathered_from, opened, put, with_entry, with_opened}

length-put : (model : Gathered) (models : List Gathered) → length (put model models) ≤ length models + 1
length-put model [] = omega arith
length-put model (m ∷ models) = by (bytes_eq m.name model.name) (length-put model models)
  where
    by : (b : Bool) → length (put model models) ≤ length models + 1 → length (cond b (model ∷ models) (m ∷ put model models)) ≤ length (m ∷ models) + 1
    by true rest = omega arith
    by false rest = omega (arith, rest)

length-with_opened : (n : ℕ) (def : ModelDef) (o : Option Gathered) (models : List Gathered) → length (with_opened n def o models) ≤ length models + 1
length-with_opened n def None models = omega arith
length-with_opened n def (Some model) models = length-put (added n def model) models

length-gathered_from : (n : ℕ) (models : List Gathered) (defs : List ModelDef) → length (gathered_from n models defs) ≤ length models + length defs
length-gathered_from n models [] = omega arith
length-gathered_from n models (def ∷ defs) =
    let more = length-gathered_from (suc n) (with_entry n models def) defs in
    let one = length-with_opened n def (opened models n def) models in
    omega arith

pub length-gathered : (defs : List ModelDef) → length (gathered defs) ≤ length defs
length-gathered defs = let all = length-gathered_from 0 [] defs in omega arith
