-- A run of the machine goes on by one body.
use Rattle.std.proofs.Common.{◌≡◌, ℕ, zero, suc, ℤ, List, [], ◌∷◌, ◌++◌, ◌⊎◌, refl, ap, sym, ◌∙◌, arith, inl, inr, Result, Ok, Err, subst}
use Rattle.ob_io.specs.Cause.{Rose}
use Rattle.ob_schema.specs.Tables.{Tables}
use Rattle.ob_rpc.specs.Envelope.{Envelope, Fault, envelope_of}
use Rattle.ob_rpc.specs.declared.methods.Served.TheVariants.{EveryMethod}
use Rattle.ob_server.specs.Directory.{directory_of}
use Rattle.ob_server.specs.Machine.{State, MayAnswer, IsUnread, Step, Rests, Run, asked_by, moments_after}
use Rattle.ob_server.specs.Request.{Request, request_of}
use Rattle.ob_server.specs.Setup.{Setup}
use Rattle.ob_server.proofs.Counts.{Rose-earlier}

-- what may be answered where the count rose from a later moment on may be where it rose from an earlier one on
answer_since : {rose rose' : Type 0} (setup : Setup) (old : Tables) (now : ℤ) (request : Request) (reply : List ℕ) (new : Tables) → (rose → rose')
    → MayAnswer setup old now rose request reply new → MayAnswer setup old now rose' request reply new
answer_since setup old now request reply new since (inl answers) = inl answers
answer_since setup old now request reply new since (inr (same, inl memory)) = inr (same, inl memory)
answer_since setup old now request reply new since (inr (same, inr fails)) = inr (same, inr (since fails.0, fails.1))

-- the moment of a step from where the machine rested is that of a step from before it on
moment_since : (old past new : State) (body reply : List ℕ) → Rests old past → (new.moments ≡ moments_after (envelope_of EveryMethod body) past.moments) ⊎ IsUnread past reply new
    → (new.moments ≡ moments_after (envelope_of EveryMethod body) old.moments) ⊎ IsUnread old reply new
moment_since old past new body reply rests (inl taken) = inl (taken ∙ ap (moments_after (envelope_of EveryMethod body)) rests.moments)
moment_since old past new body reply rests (inr unread) = inr (record { told = unread.told; tables = unread.tables ∙ rests.tables; moments = unread.moments ∙ rests.moments })

-- a step from where the machine rested
step_since : (setup : Setup) (old past new : State) (body reply : List ℕ) → Rests old past → Step setup past body reply new → Step setup old body reply new
step_since setup old past new body reply rests step =
    let request : Tables → Request = λ tables. asked_by setup tables body in
    let tables_now = subst (λ (t : Tables). MayAnswer setup t (past.moments 0) (Rose past.faults new.faults) (request t) reply new.tables) rests.tables step.answer in
    let now = subst (λ (m : ℕ → ℤ). MayAnswer setup old.tables (m 0) (Rose past.faults new.faults) (request old.tables) reply new.tables) rests.moments tables_now in
    record {
      answer = answer_since setup old.tables (old.moments 0) (request old.tables) reply new.tables (Rose-earlier old.faults past.faults new.faults rests.count) now;
      moment = moment_since old past new body reply rests step.moment;
      count = omega (arith, rests.count, step.count);
    }

pub rests_here : (state : State) → Rests state state
rests_here state = record { tables = refl; moments = refl; count = omega arith }

-- the run goes on by one body and its reply
pub run_on : (setup : Setup) (old past new : State) (bodies replies : List (List ℕ)) (body reply : List ℕ) → Run setup old bodies replies past → Step setup past body reply new
    → Run setup old (bodies ++ body ∷ []) (replies ++ reply ∷ []) new
run_on setup old past new [] [] body reply run step = (new, step_since setup old past new body reply run step, rests_here new)
run_on setup old past new [] (first ∷ replies) body reply run step = absurd run
run_on setup old past new (first ∷ bodies) [] body reply run step = absurd run
run_on setup old past new (first ∷ bodies) (told ∷ replies) body reply run step = (run.0, run.1, run_on setup run.0 past new bodies replies body reply run.2 step)

-- a run from a later count of faults on is one from an earlier one on
pub run_from : (setup : Setup) (old from past : State) (bodies replies : List (List ℕ)) → Rests old from → Run setup from bodies replies past → Run setup old bodies replies past
run_from setup old from past [] [] rests run = record { tables = run.tables ∙ rests.tables; moments = run.moments ∙ rests.moments; count = omega (arith, rests.count, run.count) }
run_from setup old from past [] (reply ∷ replies) rests run = run
run_from setup old from past (body ∷ bodies) [] rests run = run
run_from setup old from past (body ∷ bodies) (reply ∷ replies) rests run = (run.0, step_since setup old from run.0 body reply rests run.1, run.2)

-- a moment, and then others
abbrev pub moment_then : ℤ → (ℕ → ℤ) → ℕ → ℤ
moment_then now rest zero = now
moment_then now rest (suc n) = rest n

module _ (setup : Setup) (old new : State) (body reply : List ℕ) (rest : ℕ → ℤ) where
  -- a step before other moments, and behind which
  abbrev IsStepBefore : Type 0
  IsStepBefore = (moments : ℕ → ℤ) × Step setup (record old { moments = moments }) body reply (record new { moments = rest })

  -- a body that is read takes the same moment; one that is malformed is answered so at any
  read_before : (read : Result Envelope Fault) → envelope_of EveryMethod body ≡ read → Step setup old body reply new → IsStepBefore
  read_before (Ok envelope) is step =
      (moment_then (old.moments 0) rest, record { answer = step.answer; moment = inl (rw is refl); count = step.count })
  read_before (Err fault) is step =
      let answers : (Result Envelope Fault) → ℤ → Type 0 = λ read now. MayAnswer setup old.tables now (Rose old.faults new.faults) (request_of setup (directory_of setup.models old.tables) read) reply new.tables in
      let malformed : answers (Err fault) (rest 0) = subst (λ read. answers read (old.moments 0)) is step.answer in
      (rest, record { answer = subst (λ read. answers read (rest 0)) (sym is) malformed; moment = inl (rw is refl); count = step.count })

  -- so may any body be, whatever moments are to come behind it
  step_before : Step setup old body reply new → IsStepBefore
  step_before step = by step.moment where
    by : (new.moments ≡ moments_after (envelope_of EveryMethod body) old.moments) ⊎ IsUnread old reply new → IsStepBefore
    by (inl taken) = read_before (envelope_of EveryMethod body) refl step
    by (inr unread) = (
      rest,
      record {
        answer = inr (unread.tables, inl unread.told);
        moment = inr (record { told = unread.told; tables = unread.tables; moments = refl });
        count = step.count;
      },
    )

-- a run may be one whatever moments are to come behind it
pub run_before : (setup : Setup) (old new : State) (bodies replies : List (List ℕ)) (rest : ℕ → ℤ) → Run setup old bodies replies new
    → (moments : ℕ → ℤ) × Run setup (record old { moments = moments }) bodies replies (record new { moments = rest })
run_before setup old new [] [] rest run = (rest, record { tables = run.tables; moments = refl; count = run.count })
run_before setup old new [] (reply ∷ replies) rest run = absurd run
run_before setup old new (body ∷ bodies) [] rest run = absurd run
run_before setup old new (body ∷ bodies) (reply ∷ replies) rest run =
    let behind = run_before setup run.0 new bodies replies rest run.2 in
    let step = step_before setup old run.0 body reply behind.0 run.1 in
    (step.0, (record (run.0) { moments = behind.0 }, step.1, behind.1))
