-- How proofs tell stages apart: their code, from those of models and values.
use Rattle.std.specs.Prelude.{◌≡◌, ℕ, zero, suc, List, refl}
use Rattle.std.specs.Coded.{Coded, code_by, coded×, coded_ℕ}
use Rattle.ob_base.specs.declared.value.Value.{Value}
use Rattle.ob_cache.specs.Stages.{Stages}
use Rattle.ob_cache.specs.declared.stages.Phase.{Phase}
use Rattle.ob_cache.specs.declared.stages.Phase.TheVariants as phase
use Rattle.ob_schema.specs.Tables.{Tables}
use Rattle.ob_schema.specs.declared.info.ModelInfo.{ModelInfo}
use Rattle.ob_tables.specs.Coding.{coded_tables}

-- phases by number
abbrev number_of : Phase → ℕ
number_of phase.Settled = 0
number_of phase.Staged = 1
number_of phase.Spoiled = 2

abbrev phase_of : ℕ → Phase
phase_of zero = phase.Settled
phase_of (suc zero) = phase.Staged
phase_of (suc (suc n)) = phase.Spoiled

abbrev numbered_back : (p : Phase) → phase_of (number_of p) ≡ p
numbered_back phase.Settled = refl
numbered_back phase.Staged = refl
numbered_back phase.Spoiled = refl

abbrev coded_phase : Coded Phase
coded_phase = code_by ℕ coded_ℕ number_of phase_of numbered_back

-- stages are stored as their parts
abbrev pub coded_stages : Coded (List ModelInfo) → Coded Value → Coded Stages
coded_stages models values =
    code_by (List ModelInfo × (Tables × (Tables × (Tables × Phase)))) (coded× models (coded× (coded_tables values) (coded× (coded_tables values) (coded× (coded_tables values) coded_phase))))
    (λ s. (s.models, (s.flushed, (s.settled, (s.staged, s.phase))))) (λ p. record { models = p.0; flushed = p.1.0; settled = p.1.1.0; staged = p.1.1.1.0; phase = p.1.1.1.1 }) (λ _. refl)
