-- From what each step of serving a request does to a step of the machine.
use Rattle.std.proofs.Common.{◌≡◌, inl, inr, ℕ, ℤ, pos, true, false, codes, List, Option, Some, None, option_map, Result, Ok, Err, refl, ap, ◌∙◌, subst, sym, Bor, BTreeMap, Global, String}
use Rattle.std.specs.Prelude.{IfSome, IsSome, IsSomeAnd, bytes_eq, unwrap_or}
use Rattle.std.specs.BTreeMap.{IsEmpty}
use Rattle.serde_json.specs.Data.{Data, Items, object, no_members}
use Rattle.serde_json.specs.View.{members_view, view}
use Rattle.serde_json.proofs.Views.{view-Object}
use Rattle.serde_json.specs.declared.value.Value.{Value}
use Rattle.serde_json.specs.declared.value.Value.TheVariants.{Object}
use Rattle.ob_access.specs.Policies.{PolicyData}
use Rattle.ob_base.specs.declared.refusal.Refusal.{Refusal}
use Rattle.ob_base.specs.declared.refusal.Refusal.TheVariants as refusal
use Rattle.ob_cache.proofs.CallerLemmas.{Refuses-weaker}
use Rattle.ob_cache.specs.Calls.{IsAsked, IsCalled, KeeperRose, Refuses, Standpoint, models_at, settled_over}
use Rattle.ob_cache.specs.Stages.{resting}
use Rattle.ob_cache.specs.Standing.{Holding, OfStages, RestsAt, Stands}
use Rattle.ob_call.specs.Called.{Called, called_by}
use Rattle.ob_call.specs.declared.call.Call.{Call as Handed}
use Rattle.ob_io.specs.Moments.{later}
use Rattle.ob_io.specs.Store.{Store}
use Rattle.ob_rpc.specs.Envelope.{Envelope, Fault, envelope_of}
use Rattle.ob_rpc.specs.declared.methods.Served.TheVariants.{EveryMethod}
use Rattle.ob_schema.specs.Models.{model_at}
use Rattle.ob_schema.specs.declared.info.ModelInfo.{ModelInfo}
use Rattle.ob_schema.specs.Tables.{Tables}
use Rattle.ob_server.specs.MethodCall.{call_view, handed_view}
use Rattle.ob_server.specs.declared.request.Layout.{Layout}
use Rattle.ob_server.specs.declared.request.Layout.TheVariants as layout
use Rattle.ob_server.specs.declared.request.Method.{Method}
use Rattle.ob_server.specs.declared.request.Method.TheVariants as method
use Rattle.ob_server.specs.declared.request.MethodCall.{MethodCall}
use Rattle.ob_server.specs.declared.request.ReadMethod.{ReadMethod}
use Rattle.ob_server.specs.declared.request.WriteMethod.{WriteMethod}
use Rattle.ob_server.specs.declared.terms.Terms.{Terms}
use Rattle.ob_server.specs.Directory.{Directory, directory_of}
use Rattle.ob_server.specs.Request.{Call, Request, call_of, called, identified, is_login, listed, login_of, malformed, request_by, request_of, request_with, telling_by, told_of, version_json, wrong}
use Rattle.ob_server.specs.Setup.{Setup, over}
use Rattle.ob_server.specs.Texts.{malformed_text, no_memory_text, outcome_text, told}
use Rattle.ob_server.specs.Body.{MayBeGiven, RepliesAsked, Serves, ServesAsked, ServesOver, TakesMoment}
use Rattle.ob_server.specs.Machine.{Calls, Makes, MakesCause, MayAnswer, Means, MeansCause, Tells, TellsCause, asked_by, called_at}
use Rattle.ob_server.specs.Reply.{Keeps, MayTell, RepliesTo, TellsKept, TellsPlainly}

-- what holds of some model holds of the model of the number
at_model : (P : ModelInfo → Type 0) (found : Option ModelInfo) (info : ModelInfo) → found ≡ Some info → P info → IsSomeAnd found P
at_model P found info is holds = rw is holds

-- an outcome that leaves the tables, and its reply, are a step
pub told_step : (setup : Setup) (old : Tables) (now : ℤ) (rose : Type 0) (id : Data) (call : Call) (reply : List ℕ) (outcome : Result Data Refusal) → Calls setup old now call outcome old
    → MayTell reply (outcome_text setup.models id (told call.layout outcome))
    → MayAnswer setup old now rose (called id call) reply old
told_step setup old now rose id call reply outcome calls (inl tells) = inl (outcome, calls, tells)
told_step setup old now rose id call reply outcome calls (inr unmade) = inr (refl, inl unmade)

-- a refusal and its reply are a step
pub refused_step : (setup : Setup) (old : Tables) (now : ℤ) (rose : Type 0) (id : Data) (call : Call) (reply : List ℕ) (why : Refusal)
    → Refuses rose (λ cause. Calls setup old now call (Err cause) old) why → MayTell reply (outcome_text setup.models id (told call.layout (Err why)))
    → MayAnswer setup old now rose (called id call) reply old
refused_step setup old now rose id call reply refusal.Keeper cause (inl tells) = inr (refl, inr (cause, tells))
refused_step setup old now rose id call reply refusal.Keeper cause (inr unmade) = inr (refl, inl unmade)
refused_step setup old now rose id call reply refusal.NoMemory cause (inl tells) = inr (refl, inl tells)
refused_step setup old now rose id call reply refusal.NoMemory cause (inr unmade) = inr (refl, inl unmade)
refused_step setup old now rose id call reply why cause tells = told_step setup old now rose id call reply (Err why) cause tells

-- a cause among others
refuses_as : (P Q : Refusal → Type 0) (rose : Type 0) → ((why : Refusal) → P why → Q why) → (why : Refusal) → Refuses rose P why → Refuses rose Q why
refuses_as P Q rose then why cause = Refuses-weaker rose rose P Q why (λ risen. risen) then cause

-- a model that is there
pub known_model : (found : Option ModelInfo) → IsSome found → (info : ModelInfo) × (found ≡ Some info)
known_model None there = absurd (cc)
known_model (Some info) there = (info, refl)

-- what is known of it
pub known : (found : Option ModelInfo) (info : ModelInfo) (P : ModelInfo → Type 0) → found ≡ Some info → IfSome found P → P info
known found info P is h = let there : IfSome (Some info) P = subst (λ (o : Option ModelInfo). IfSome o P) is h in there

-- an engine of the same models that stands as before rests at the tables still
pub rests_on : (before now : Option Store) (old new : Holding) → new.models ≡ old.models → OfStages before old (Stands now new) → (tables : Tables) → RestsAt before old tables → RestsAt now new tables
rests_on before now old new same stands tables rests = subst (λ (models : List ModelInfo). Stands now new (resting models tables)) (sym same) (stands (resting old.models tables) rests)

-- what tells by these models tells by the same ones
pub tells_by : (models others : List ModelInfo) (id : Data) (outcome : Result Data Refusal) (reply : List ℕ) → others ≡ models → MayTell reply (outcome_text others id outcome) → MayTell reply (outcome_text models id outcome)
tells_by models others id outcome reply same tells = rw (← same) tells

-- where an answer leaves the tables the engine rests at them still
pub serves_unchanged : (setup : Setup) (old : Tables) (now : ℤ) (rose : Type 0) (request : Request) (reply : List ℕ) (kept : Option Store) (held : Holding)
    → RestsAt kept held old → MayAnswer setup old now rose request reply old → Serves setup old now rose request reply kept held
serves_unchanged setup old now rose request reply kept held rests answer = record { tables = old; rests = rests; answer = answer }

module _ (terms : Terms) (before after : Standpoint) (info : ModelInfo) (layout : Layout) (call : Handed) (id : Data) (reply : List ℕ) where
  abbrev models : List ModelInfo
  models = models_at before

  abbrev policy : PolicyData
  policy = terms.policy.now

  abbrev setup : Setup
  setup = over terms models

  -- what the machine is called with
  abbrev called_with : Called
  called_with = called_by call info

  -- a refusal among others, of a method
  as_call : (named : Method) (why : Refusal) (old : Tables) → model_at models call.model ≡ Some info → Refuses (KeeperRose before after) (λ w. Means named models policy called_with old (Err w) old) why
      → Refuses (KeeperRose before after) (λ w. Calls setup old call.now (handed_view layout named call) (Err w) old) why
  as_call named why old is cause = refuses_as (λ w. Means named models policy called_with old (Err w) old) (λ w. Calls setup old call.now (handed_view layout named call) (Err w) old) (KeeperRose before after)
      (λ w means. at_model (λ own. Means named models policy (called_by call own) old (Err w) old) (model_at models call.model) info is means) why cause

  module _ (reads : ReadMethod) (is : model_at models call.model ≡ Some info) where
    -- a method that reads was answered, and its reply told
    pub reading_serves : (json : Data) → IsAsked (Tells reads models policy called_with) before after (TellsCause reads models policy called_with) (Ok json) → MayTell reply (outcome_text models id (Ok json))
        → ServesOver terms before after call.now (called id (handed_view layout (method.Reads reads) call)) reply
    reading_serves json asked tells = λ tables rests.
        serves_unchanged setup tables call.now (KeeperRose before after) (called id (handed_view layout (method.Reads reads) call)) reply after.kept after.held
        (rests_on before.kept after.kept before.held after.held asked.same.models asked.same.stands tables rests)
        (told_step setup tables call.now (KeeperRose before after) id (handed_view layout (method.Reads reads) call) reply (Ok json)
        (at_model (λ own. Means (method.Reads reads) models policy (called_by call own) tables (Ok json) tables) (model_at models call.model) info is (asked.answer tables rests, refl)) tells)

    -- or it was refused
    pub refused_reading_serves : (why : Refusal) → IsAsked (Tells reads models policy called_with) before after (TellsCause reads models policy called_with) (Err why) → MayTell reply (outcome_text models id (told layout (Err why)))
        → ServesOver terms before after call.now (called id (handed_view layout (method.Reads reads) call)) reply
    refused_reading_serves why asked tells = λ tables rests.
        serves_unchanged setup tables call.now (KeeperRose before after) (called id (handed_view layout (method.Reads reads) call)) reply after.kept after.held
        (rests_on before.kept after.kept before.held after.held asked.same.models asked.same.stands tables rests)
        (refused_step setup tables call.now (KeeperRose before after) id (handed_view layout (method.Reads reads) call) reply why
        (as_call (method.Reads reads) why tables is
        (refuses_as (λ w. Tells reads models policy called_with tables (Err w)) (λ w. Means (method.Reads reads) models policy called_with tables (Err w) tables) (KeeperRose before after) (λ w tells. (tells, refl)) why
        (asked.answer tables rests))) tells)

  module _ (writes : WriteMethod) (is : model_at models call.model ≡ Some info) where
    -- a method that writes was refused
    pub refused_writing_serves : (why : Refusal) → IsCalled (Makes writes models policy called_with) before after (MakesCause writes models policy called_with) (Err why) → MayTell reply (outcome_text models id (told layout (Err why)))
        → ServesOver terms before after call.now (called id (handed_view layout (method.Writes writes) call)) reply
    refused_writing_serves why is_called tells = λ tables rests.
        let (cause, rest) = is_called.answer tables rests in
        serves_unchanged setup tables call.now (KeeperRose before after) (called id (handed_view layout (method.Writes writes) call)) reply after.kept after.held rest
        (refused_step setup tables call.now (KeeperRose before after) id (handed_view layout (method.Writes writes) call) reply why (as_call (method.Writes writes) why tables is cause) tells)

    -- it was carried out, and was kept with its reply or not
    kept_serves : (old next : Tables) (json : Data) (last : Standpoint) (rose_keeping rose : Type 0) → (rose_keeping → rose) → Makes writes models policy called_with old (Ok json) next
        → Keeps rose_keeping id json old next last.kept last.held reply → Serves setup old call.now rose (called id (handed_view layout (method.Writes writes) call)) reply last.kept last.held
    kept_serves old next json last rose_keeping rose since makes (inl (rests, tells)) =
        record { tables = next; rests = rests; answer = inl (Ok json, at_model (λ own. Makes writes models policy (called_by call own) old (Ok json) next) (model_at models call.model) info is makes, tells) }
    kept_serves old next json last rose_keeping rose since makes (inr (rests, inl unmade)) = record { tables = old; rests = rests; answer = inr (refl, inl unmade) }
    kept_serves old next json last rose_keeping rose since makes (inr (rests, inr (cause, tells))) = record { tables = old; rests = rests; answer = inr (refl, inr (since cause, tells)) }

    -- by what became of it
    pub writing_serves : (json : Data) (last : Standpoint) → (KeeperRose after last → KeeperRose before last) → IsCalled (Makes writes models policy called_with) before after (MakesCause writes models policy called_with) (Ok json)
        → ((old next : Tables) → Stands after.kept after.held (settled_over after.held.models old next) → Keeps (KeeperRose after last) id json old next last.kept last.held reply)
        → ServesOver terms before last call.now (called id (handed_view layout (method.Writes writes) call)) reply
    writing_serves json last since is_called keeps = λ tables rests.
        let (next, makes, stands) = is_called.answer tables rests in
        kept_serves tables next json last (KeeperRose after last) (KeeperRose before last) since makes (keeps tables next stands)

-- what is told without a call is a step that leaves the tables
plain_step : (setup : Setup) (old : Tables) (now : ℤ) (rose : Type 0) (request : Request) (reply : List ℕ) → TellsPlainly setup.models request reply → MayAnswer setup old now rose request reply old
plain_step setup old now rose (called id call) reply tells = absurd tells
plain_step setup old now rose (told_of id json) reply (inl tells) = inl (tells, refl)
plain_step setup old now rose (told_of id json) reply (inr unmade) = inr (refl, inl unmade)
plain_step setup old now rose (identified id json) reply (inl tells) = inl (tells, refl)
plain_step setup old now rose (identified id json) reply (inr unmade) = inr (refl, inl unmade)
plain_step setup old now rose (wrong id n) reply (inl tells) = inl (tells, refl)
plain_step setup old now rose (wrong id n) reply (inr unmade) = inr (refl, inl unmade)
plain_step setup old now rose (malformed id place) reply (inl tells) = inl (tells, refl)
plain_step setup old now rose (malformed id place) reply (inr unmade) = inr (refl, inl unmade)

-- so it serves the request
pub plainly_serves : (setup : Setup) (old : Tables) (now : ℤ) (rose : Type 0) (request : Request) (reply : List ℕ) (kept : Option Store) (held : Holding)
    → RestsAt kept held old → TellsPlainly setup.models request reply → Serves setup old now rose request reply kept held
plainly_serves setup old now rose request reply kept held rests tells = serves_unchanged setup old now rose request reply kept held rests (plain_step setup old now rose request reply tells)

-- want of memory serves any request
pub no_memory_serves : (setup : Setup) (old : Tables) (now : ℤ) (rose : Type 0) (request : Request) (kept : Option Store) (held : Holding)
    → RestsAt kept held old → Serves setup old now rose request no_memory_text kept held
no_memory_serves setup old now rose request kept held rests = serves_unchanged setup old now rose request no_memory_text kept held rests (inr (refl, inl refl))

-- who serves what a body's envelope asks for serves the body
pub body_serves : (setup : Setup) (old : Tables) (now moment : ℤ) (rose : Type 0) (body reply : List ℕ) (envelope : Envelope) (kept : Option Store) (held : Holding)
    → now ≡ moment → envelope_of EveryMethod body ≡ Ok envelope
    → Serves setup old now rose (request_with setup (directory_of setup.models old) envelope.id envelope.method envelope.args) reply kept held → Serves setup old moment rose (asked_by setup old body) reply kept held
body_serves setup old now moment rose body reply envelope kept held now_is is serves = rw is (rw now_is at serves)

-- the refusal of a body at a place, with the id that was read, serves it
pub fault_serves : (setup : Setup) (old : Tables) (now : ℤ) (rose : Type 0) (body reply : List ℕ) (fault : Fault) (kept : Option Store) (held : Holding)
    → envelope_of EveryMethod body ≡ Err fault → RestsAt kept held old → MayTell reply (malformed_text setup.models fault.id fault.place)
    → Serves setup old now rose (asked_by setup old body) reply kept held
fault_serves setup old now rose body reply fault kept held is rests tells = rw is (plainly_serves setup old now rose (malformed fault.id fault.place) reply kept held rests tells)

-- the reply to a call that was answered tells of the result
pub replies_result : (setup : Setup) (rose : Type 0) (now : ℤ) (id : Data) (call : Call) (json : Data) (reply : List ℕ)
    → MayTell reply (outcome_text setup.models id (Ok json)) → RepliesTo setup rose now (called id call) reply
replies_result _ _ _ _ _ json _ tells = record { outcome = Ok json; cause = tt; tells = tells }

-- that to one which was refused has the cause that its method has
pub replies_refusal : (setup : Setup) (rose : Type 0) (now : ℤ) (id : Data) (call : Call) (info : ModelInfo) (why : Refusal) (reply : List ℕ)
    → model_at setup.models call.model ≡ Some info → Refuses rose (MeansCause call.method setup.models setup.policy (called_at now call info)) why → MayTell reply (outcome_text setup.models id (told call.layout (Err why)))
    → RepliesTo setup rose now (called id call) reply
replies_refusal setup rose now _ call info why _ is cause tells = record { outcome = Err why; cause = at_its_model; tells = tells }
  where
    at_its_model : Refuses rose (λ w. IsSomeAnd (model_at setup.models call.model) (λ own. MeansCause call.method setup.models setup.policy (called_at now call own) w)) why
    at_its_model = refuses_as (MeansCause call.method setup.models setup.policy (called_at now call info)) (λ w. IsSomeAnd (model_at setup.models call.model) (λ own. MeansCause call.method setup.models setup.policy (called_at now call own) w)) rose
        (λ w holds. at_model (λ own. MeansCause call.method setup.models setup.policy (called_at now call own) w) (model_at setup.models call.model) info is holds) why cause

-- and that to one whose result was made, as it was kept or not
pub replies_kept : (setup : Setup) (rose_keeping rose : Type 0) (now : ℤ) (id : Data) (call : Call) (json : Data) (reply : List ℕ)
    → (rose_keeping → rose) → TellsKept rose_keeping id json reply → RepliesTo setup rose now (called id call) reply
replies_kept setup _ rose now id call json reply since (inl tells) = replies_result setup rose now id call json reply tells
replies_kept _ _ _ _ _ _ _ _ since (inr (cause, tells)) = record { outcome = Err refusal.Keeper; cause = since cause; tells = tells }

-- want of memory may be told of any request
pub replies_no_memory : (setup : Setup) (rose : Type 0) (now : ℤ) (request : Request) → RepliesTo setup rose now request no_memory_text
replies_no_memory _ _ _ (called id call) = record { outcome = Err refusal.NoMemory; cause = tt; tells = inr refl }
replies_no_memory _ _ _ (told_of id json) = inl (inr refl)
replies_no_memory _ _ _ (identified id json) = inl (inr refl)
replies_no_memory _ _ _ (wrong id n) = inl (inr refl)
replies_no_memory _ _ _ (malformed id place) = inl (inr refl)

-- what is told without a call replies to the request
pub plainly_replies : (setup : Setup) (rose : Type 0) (now : ℤ) (request : Request) (reply : List ℕ) → TellsPlainly setup.models request reply → RepliesTo setup rose now request reply
plainly_replies _ _ _ (called id call) _ tells = absurd tells
plainly_replies _ _ _ (told_of id json) _ tells = inl tells
plainly_replies _ _ _ (identified id json) _ tells = inl tells
plainly_replies _ _ _ (wrong id n) _ tells = inl tells
plainly_replies _ _ _ (malformed id place) _ tells = inl tells

-- a reply to a request is one to the same one by another name, at the same moment
pub replies_same : (setup : Setup) (rose : Type 0) (now moment : ℤ) (request other : Request) (reply : List ℕ)
    → now ≡ moment → request ≡ other → RepliesTo setup rose now request reply → RepliesTo setup rose moment other reply
replies_same setup rose now moment request other reply now_is is replies = rw (← now_is, ← is) replies

-- who replies to what a body's envelope asks for replies to the body
pub body_replies : (setup : Setup) (directory : Directory) (rose : Type 0) (now moment : ℤ) (body reply : List ℕ) (envelope : Envelope)
    → now ≡ moment → envelope_of EveryMethod body ≡ Ok envelope → RepliesTo setup rose now (request_with setup directory envelope.id envelope.method envelope.args) reply
    → RepliesTo setup rose moment (request_of setup directory (envelope_of EveryMethod body)) reply
body_replies setup directory rose now moment body reply envelope now_is is replies = rw is (rw now_is at replies)

-- the refusal of a body at a place, with the id that was read, replies to it
pub fault_replies : (setup : Setup) (directory : Directory) (rose : Type 0) (now : ℤ) (body reply : List ℕ) (fault : Fault)
    → envelope_of EveryMethod body ≡ Err fault → MayTell reply (malformed_text setup.models fault.id fault.place) → RepliesTo setup rose now (request_of setup directory (envelope_of EveryMethod body)) reply
fault_replies setup directory rose now body reply fault is tells = rw is (inl tells)

-- ---- the request of a method

-- `version` is told whatever the rows
pub asks_version : (setup : Setup) (directory : Directory) (id : Data) (method : List ℕ) (elements : Items) → bytes_eq method (codes "version") ≡ true → request_with setup directory id method elements ≡ told_of id version_json
asks_version _ _ _ _ _ is = rw is refl

-- a login by its elements
pub asks_login : (setup : Setup) (directory : Directory) (id : Data) (method : List ℕ) (elements : Items) → bytes_eq method (codes "version") ≡ false → is_login method ≡ true
    → request_with setup directory id method elements ≡ telling_by id (login_of setup.database directory elements)
asks_login _ _ _ _ _ other is = rw (other, is) refl

-- `execute` is a call by its elements, whose arguments are listed
pub asks_spread : (setup : Setup) (directory : Directory) (id : Data) (method : List ℕ) (elements : Items) → bytes_eq method (codes "version") ≡ false → is_login method ≡ false → bytes_eq method (codes "execute") ≡ true
    → request_with setup directory id method elements ≡ request_by id (call_of setup directory layout.Spread (listed elements))
asks_spread _ _ _ _ _ other no_login is = rw (other, no_login, is) refl

-- and any other a call by its elements
pub asks_listed : (setup : Setup) (directory : Directory) (id : Data) (method : List ℕ) (elements : Items) → bytes_eq method (codes "version") ≡ false → is_login method ≡ false → bytes_eq method (codes "execute") ≡ false
    → request_with setup directory id method elements ≡ request_by id (call_of setup directory layout.Listed elements)
asks_listed _ _ _ _ _ other no_login no_spread = rw (other, no_login, no_spread) refl

-- a moment that a clock may give
pub given_moment : (coming : Option (ℕ → ℤ)) → (now : ℤ) × MayBeGiven coming now
given_moment None = (pos 0, tt)
given_moment (Some moments) = (moments 0, refl)

-- and that moment under another name
pub given_as : (coming : Option (ℕ → ℤ)) (now moment : ℤ) → moment ≡ now → MayBeGiven coming now → MayBeGiven coming moment
given_as coming now moment is given = subst (MayBeGiven coming) (sym is) given

-- a body with an envelope takes a moment
pub one_taken : (before now : Option (ℕ → ℤ)) (body : List ℕ) (envelope : Envelope) → envelope_of EveryMethod body ≡ Ok envelope → now ≡ option_map later before → TakesMoment before now body
one_taken before now body envelope is rest = rw is rest

-- one without takes none
pub none_taken : (coming : Option (ℕ → ℤ)) (body : List ℕ) (fault : Fault) → envelope_of EveryMethod body ≡ Err fault → TakesMoment coming coming body
none_taken None body fault is = refl
none_taken (Some moments) body fault is = rw is refl

-- a moment and a request under other names
pub serves_same : (terms : Terms) (before after : Standpoint) (now moment : ℤ) (request other : Request) (reply : List ℕ)
    → now ≡ moment → request ≡ other → ServesOver terms before after now request reply → ServesOver terms before after moment other reply
serves_same terms before after now moment request other reply now_is is serves = rw (← now_is, ← is) serves

-- what is asked for under another name, at the same moment
pub asked_same : (terms : Terms) (before after : Standpoint) (now moment : ℤ) (asks others : Directory → Request) (reply : List ℕ)
    → now ≡ moment → ((directory : Directory) → asks directory ≡ others directory) → ServesAsked terms before after now asks reply → ServesAsked terms before after moment others reply
asked_same terms before after now moment asks others reply now_is are serves = λ tables rests.
    let request_is = are (directory_of (models_at before) tables) in rw (← now_is, ← request_is) (serves tables rests)

pub replied_same : (terms : Terms) (before after : Standpoint) (now moment : ℤ) (asks others : Directory → Request) (reply : List ℕ)
    → now ≡ moment → ((directory : Directory) → asks directory ≡ others directory) → RepliesAsked terms before after now asks reply → RepliesAsked terms before after moment others reply
replied_same terms before after now moment asks others reply now_is are replies =
    (replies.0, replies_same (over terms (models_at before)) (KeeperRose before after) now moment (asks replies.0) (others replies.0) reply now_is (are replies.0) replies.1)

-- an object without members
pub empty_object : (map : BTreeMap (String Global) Value) → IsEmpty map → view (Object map) ≡ object no_members
empty_object map empty = view-Object map ∙ ap (λ entries. object (members_view entries)) empty

-- arguments by name, seen by their data: none where they are absent
pub named_or_none : (found : Option (Bor Value)) (none chosen : Bor Value) → view none.now ≡ object no_members → chosen ≡ unwrap_or found none
    → view chosen.now ≡ unwrap_or (option_map (λ kw. view kw.now) found) (object no_members)
named_or_none None none chosen empty is = rw is empty
named_or_none (Some kw) none chosen empty is = rw is refl

-- a call by its parts is the one that was read
pub seen_as : (id : Data) (call : MethodCall) (named : Method) (kw : Data) → call.method ≡ named → kw ≡ unwrap_or (option_map (λ k. view k.now) call.kw) (object no_members)
    → called id (record { caller = call.caller; model = call.model; method = named; args = view call.args.now; kw = kw; layout = call.layout }) ≡ called id (call_view call)
seen_as id call named kw is kw_is = rw (← is, kw_is) refl

-- a call by what one method tells is one by the method that it is
pub tells_as : (before after : Standpoint) (policy : PolicyData) (call : Handed) (reads named : ReadMethod) → reads ≡ named → (r : Result Data Refusal)
    → IfSome (model_at (models_at before) call.model) (λ info. IsAsked (Tells named (models_at before) policy (called_by call info)) before after (TellsCause named (models_at before) policy (called_by call info)) r)
    → IfSome (model_at (models_at before) call.model) (λ info. IsAsked (Tells reads (models_at before) policy (called_by call info)) before after (TellsCause reads (models_at before) policy (called_by call info)) r)
tells_as before after policy call reads named is r =
    subst (λ (method : ReadMethod). IfSome (model_at (models_at before) call.model) (λ info. IsAsked (Tells method (models_at before) policy (called_by call info)) before after (TellsCause method (models_at before) policy (called_by call info)) r)) (sym is)

-- a call by what one method makes is one by the method that it is
pub makes_as : (before after : Standpoint) (policy : PolicyData) (call : Handed) (writes named : WriteMethod) → writes ≡ named → (r : Result Data Refusal)
    → IfSome (model_at (models_at before) call.model) (λ info. IsCalled (Makes named (models_at before) policy (called_by call info)) before after (MakesCause named (models_at before) policy (called_by call info)) r)
    → IfSome (model_at (models_at before) call.model) (λ info. IsCalled (Makes writes (models_at before) policy (called_by call info)) before after (MakesCause writes (models_at before) policy (called_by call info)) r)
makes_as before after policy call writes named is r =
    subst (λ (method : WriteMethod). IfSome (model_at (models_at before) call.model) (λ info. IsCalled (Makes method (models_at before) policy (called_by call info)) before after (MakesCause method (models_at before) policy (called_by call info)) r)) (sym is)
