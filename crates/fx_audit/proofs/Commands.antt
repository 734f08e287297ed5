-- What commands over octets come to.
use Rattle.std.proofs.Common.{◌≡◌, ◌⊎◌, ℕ, ◌^◌, ◌≤◌, List, length, Option, Some, Result, refl, Ok, Err, IfOk, IfErr, Bool, false, sym, ◌∙◌, subst, inl, inr, arith}
use Rattle.std.proofs.lemmas.Bool.{false≢true}
use Rattle.fx_base.specs.declared.fault.Fault.{Fault}
use Rattle.fx_base.specs.declared.fault.Place.TheVariants as places
use Rattle.fx_base.specs.Fault.{fault_at}
use Rattle.fx_base.specs.Device.{MayBeLeft, MayHaveLeft}
use Rattle.fx_base.specs.Lines.{Lines, lines_in, new_lines, Fails}
use Rattle.fx_tables.specs.Network.{Net}
use Rattle.fx_tables.specs.Classes.{Class}
use Rattle.fx_machine.specs.States.{State, wrapped_state}
use Rattle.fx_topology.specs.declared.network.NetworkDocument.{NetworkDocument}
use Rattle.fx_plan.specs.Tables.{net_of}
use Rattle.fx_checker.specs.declared.answer.Answer.{Answer}
use Rattle.fx_checker.specs.declared.answer.Answer.TheVariants.{Yes}
use Rattle.fx_audit.specs.declared.bundle.Command.{Command}
use Rattle.fx_audit.specs.declared.bundle.Command.TheVariants.{Replay}
use Rattle.fx_audit.specs.Bundle.{IsBundle}
use Rattle.fx_checker.specs.Documents.{BothMayHaveLeft, IsRefusedByDocuments, ReadFails}
use Rattle.fx_audit.specs.Commands.{IsDone, IsRefusedBundle, IsRefusedBy, IsRefusedRun, IsRefusedThere, IsReplayed, IsReplayedIn}
use Rattle.fx_checker.specs.Outputs.{Prints}
use Rattle.fx_audit.specs.Replay.{CannotReplay, ComesTo, IsTextOf}
use Rattle.fx_checker.proofs.Documents.{both_mapped, reported}

-- ---- a run in a network and traffic

abbrev pub IsReplayOf : Net → List Class → Lines → Option (List ℕ) → Option (List ℕ) → Answer → Type 0
IsReplayOf net classes lines old new answer =
    (answer ≡ Yes) × ((last : State) × ComesTo net classes lines last
    × Prints (IsTextOf net.report_layout (wrapped_state last)) old new)

pub lines_replayed : (network : NetworkDocument) (classes known : List Class) (lines : Lines) (net : Net)
    (old new : Option (List ℕ)) (result : Result Answer Fault) → net ≡ net_of network → known ≡ classes
    → IfOk result (IsReplayOf net known lines old new)
    → IfOk result (λ answer. (answer ≡ Yes) × Prints (IsReplayedIn network classes lines) old new)
lines_replayed network classes known lines net old new (Err e) same of h = cc
lines_replayed network classes known lines net old new (Ok a) same of h =
    let here : IsReplayOf (net_of network) classes lines old new a = rw (same, of) at h in
    let is = here.1.1 in
    let text = here.1.2 in (
      here.0,
      (
        text.0,
        record { run_read = is.0; last = here.1.0; run_is = is.1; steps = is.2; text_is = text.1 },
        text.2,
      ),
    )

pub lines_refused : (network : NetworkDocument) (classes known : List Class) (lines : Lines) (net : Net)
    (F W : Fault → Type 0) (result : Result Answer Fault) → net ≡ net_of network → known ≡ classes
    → IfErr result (λ e. (e ≡ fault_at 900 places.None) ⊎ (F e ⊎ (W e ⊎ CannotReplay net known lines e)))
    → IfErr result (λ e. (e ≡ fault_at 900 places.None) ⊎ (F e ⊎ (W e ⊎ IsRefusedRun network classes lines e)))
lines_refused network classes known lines net F W result same of h = rw (same, of) at h

-- ---- a bundle

of_reported : (left_n left_t : Option (List ℕ)) (n t : List ℕ) (R : List ℕ → List ℕ → Type 0) → left_n ≡ Some n → left_t
    ≡ Some t → BothMayHaveLeft left_n left_t R → R n t
of_reported left_n left_t n t R en et h =
    let inner = h.2 in
    let first : h.0 ≡ n = rw en at h.1 in
    let second : inner.0 ≡ t = rw et at inner.1 in
    subst (λ (x : List ℕ). R x t) first (subst (λ (y : List ℕ). R h.0 y) second inner.2)

pub text_lines_in : (octets text : List ℕ) (calls : ℕ) → octets ≡ text → calls ≡ 0 → new_lines (Some octets) false calls
    ≡ lines_in text
text_lines_in octets text calls same none = rw (same, none) refl

-- a text in memory isn't read to its end where it is too long
too_long : (left : Option (List ℕ)) (octets : List ℕ) (before after : ℕ) (failed : Bool) (e : Fault) → left
    ≡ Some octets → failed ≡ false → ReadFails left before after failed e → (e ≡ fault_at 901 places.None)
    × (2 ^ 32 ≤ length octets)
too_long left octets before after failed e same none (is, inl f) = absurd (false≢true (sym none ∙ f))
too_long left octets before after failed e same none (is, inr endless) =
    let long : 2 ^ 32 ≤ length octets = rw same at endless.1 in
    (is, long)

lines_too_long : (text : List ℕ) (new : Lines) (e : Fault) → new.failed ≡ false → Fails (lines_in text) new e
    → (e ≡ fault_at 901 places.None) × (2 ^ 32 ≤ length text)
lines_too_long text new e none (inl stopped) = absurd (cc)
lines_too_long text new e none (inr (is, inl f)) = absurd (false≢true (sym none ∙ f))
lines_too_long text new e none (inr (is, inr (all, asks, long))) = (is, omega (arith, long))

pub there_refused : (command : Command) (left_n left_t : Option (List ℕ)) (n t third : List ℕ)
    (before_n after_n before_t after_t : ℕ) (failed_n failed_t : Bool) (old new : Lines) (W : Fault → Type 0)
    (result : Result Answer Fault) → left_n ≡ Some n → left_t ≡ Some t → failed_n ≡ false → failed_t ≡ false
    → new.failed ≡ false → old ≡ lines_in third
    → IfErr result (λ e. (e ≡ fault_at 900 places.None)
    ⊎ (ReadFails left_n before_n after_n failed_n e
    ⊎ (ReadFails left_t before_t after_t failed_t e
    ⊎ (Fails old new e ⊎ (W e ⊎ BothMayHaveLeft left_n left_t (λ x y. IsRefusedBy command x y old e))))))
    → IfErr result (λ e. (e ≡ fault_at 900 places.None) ⊎ (W e ⊎ IsRefusedThere command n t third e))
there_refused command left_n left_t n t third before_n after_n before_t after_t failed_n failed_t old new W (Ok a) en et
    fn ft fl is h = cc
there_refused command left_n left_t n t third before_n after_n before_t after_t failed_n failed_t old new W (Err e) en
    et fn ft fl is h =
    elim h [
      | inl m ↦ inl m
      | inr (inl f) ↦ let k = too_long left_n n before_n after_n failed_n e en fn f in inr (inr (inr (k.0, inl k.1)))
      | inr (inr (inl f)) ↦ let k = too_long left_t t before_t after_t failed_t e et ft f in
          inr (inr (inr (k.0, inr (inl k.1))))
      | inr (inr (inr (inl f))) ↦ let k = lines_too_long third new e fl (subst (λ (l : Lines). Fails l new e) is f) in
          inr (inr (inr (k.0, inr (inr k.1))))
      | inr (inr (inr (inr (inl w)))) ↦ inr (inl w)
      | inr (inr (inr (inr (inr r)))) ↦ inr (inr
          (inl (subst (λ (l : Lines). IsRefusedBy command n t l e) is
          (of_reported left_n left_t n t (λ x y. IsRefusedBy command x y old e) en et r))))
    ]

-- what a command has done with texts that are reported, a bundle of that command has done
pub there_done : (command : Command) (left_n left_t : Option (List ℕ)) (n t : List ℕ) (lines third : Lines)
    (old new : Option (List ℕ)) (result : Result Answer Fault) → left_n ≡ Some n → left_t ≡ Some t → lines ≡ third
    → IfOk result (λ a. BothMayHaveLeft left_n left_t (λ x y. Prints (IsDone command x y lines a) old new))
    → IfOk result (λ a. Prints (IsDone command n t third a) old new)
there_done command left_n left_t n t lines third old new (Err e) en et is h = tt
there_done command left_n left_t n t lines third old new (Ok a) en et is h =
    subst (λ (l : Lines). Prints (IsDone command n t l a) old new) is
    (of_reported left_n left_t n t (λ x y. Prints (IsDone command x y lines a) old new) en et h)

-- ---- one command of them

-- a replay is done with its answer
pub replay_as_done : (left_n left_t : Option (List ℕ)) (lines : Lines) (old new : Option (List ℕ))
    (result : Result Answer Fault)
    → IfOk result (λ a. (a ≡ Yes) × BothMayHaveLeft left_n left_t (λ x y. Prints (IsReplayed x y lines) old new))
    → IfOk result (λ a. BothMayHaveLeft left_n left_t (λ x y. Prints (IsDone Replay x y lines a) old new))
replay_as_done left_n left_t lines old new (Err e) h = tt
replay_as_done left_n left_t lines old new (Ok a) h =
    both_mapped left_n left_t (λ x y. Prints (IsReplayed x y lines) old new)
    (λ x y. Prints (IsDone Replay x y lines a) old new) (λ x y p. (p.0, (h.0, p.1), p.2)) h.1

-- an audit reads no third text
pub audit_as_refused : (left_n left_t : Option (List ℕ)) (N T F W : Fault → Type 0) (result : Result Answer Fault)
    → IfErr result (λ e. (e ≡ fault_at 900 places.None)
    ⊎ (N e ⊎ (T e ⊎ (W e ⊎ BothMayHaveLeft left_n left_t (λ x y. IsRefusedByDocuments x y e)))))
    → IfErr result (λ e. (e ≡ fault_at 900 places.None)
    ⊎ (N e ⊎ (T e ⊎ (F e ⊎ (W e ⊎ BothMayHaveLeft left_n left_t (λ x y. IsRefusedByDocuments x y e))))))
audit_as_refused left_n left_t N T F W (Ok a) h = tt
audit_as_refused left_n left_t N T F W (Err e) h =
    elim h [
      | inl m ↦ inl m
      | inr (inl f) ↦ inr (inl f)
      | inr (inr (inl f)) ↦ inr (inr (inl f))
      | inr (inr (inr r)) ↦ inr (inr (inr (inr r)))
    ]

-- ---- the bundle

pub bundle_done : (left : Option (List ℕ)) (octets text : List ℕ) (command : Command) (n t third : List ℕ)
    (old new : Option (List ℕ)) (result : Result Answer Fault) → MayBeLeft left octets → text ≡ octets
    → IsBundle text command n t third
    → IfOk result (λ a. Prints (IsDone command n t (lines_in third) a) old new)
    → IfOk result (λ a. MayHaveLeft left (λ o. (command' : Command) × (network : List ℕ) × (traffic : List ℕ)
    × (last : List ℕ) × IsBundle o command' network traffic last
    × Prints (IsDone command' network traffic (lines_in last) a) old new))
bundle_done left octets text command n t third old new (Err e) same is b h = tt
bundle_done left octets text command n t third old new (Ok a) same is b h =
    let there : IsBundle octets command n t third = subst (λ (o : List ℕ). IsBundle o command n t third) is b in
    reported left octets (λ o. (command' : Command) × (network : List ℕ) × (traffic : List ℕ) × (last : List ℕ)
    × IsBundle o command' network traffic last × Prints (IsDone command' network traffic (lines_in last) a) old new)
    same (command, n, t, third, there, h)

there_in : (left : Option (List ℕ)) (octets text : List ℕ) (command : Command) (n t third : List ℕ) (e : Fault)
    → MayBeLeft left octets → text ≡ octets → IsBundle text command n t third → IsRefusedThere command n t third e
    → MayHaveLeft left (λ o. IsRefusedBundle o e)
there_in left octets text command n t third e same is b h =
    reported left octets (λ o. IsRefusedBundle o e) same
    (inr (command, n, t, third, subst (λ (o : List ℕ). IsBundle o command n t third) is b, h))

pub bundle_refused : (left : Option (List ℕ)) (octets text : List ℕ) (command : Command) (n t third : List ℕ)
    (R W : Fault → Type 0) (result : Result Answer Fault) → MayBeLeft left octets → text ≡ octets
    → IsBundle text command n t third → IfErr result
    (λ e. (e ≡ fault_at 900 places.None) ⊎ (W e ⊎ IsRefusedThere command n t third e))
    → IfErr result (λ e. (e ≡ fault_at 900 places.None) ⊎ (R e ⊎ (W e ⊎ MayHaveLeft left (λ o. IsRefusedBundle o e))))
bundle_refused left octets text command n t third R W (Ok a) same is b h = cc
bundle_refused left octets text command n t third R W (Err e) same is b h =
    elim h [
      | inl m ↦ inl m
      | inr (inl w) ↦ inr (inr (inl w))
      | inr (inr r) ↦ inr (inr (inr (there_in left octets text command n t third e same is b r)))
    ]

pub no_bundle : (left : Option (List ℕ)) (octets text : List ℕ) (e : Fault) → MayBeLeft left octets → text ≡ octets → e
    ≡ fault_at 801 places.None → ((command : Command) (network : List ℕ) (traffic : List ℕ) (third : List ℕ)
    → IsBundle text command network traffic third → ⊥) → MayHaveLeft left (λ o. IsRefusedBundle o e)
no_bundle left octets text e same is number none =
    reported left octets (λ o. IsRefusedBundle o e) same
    (inl (
      number,
      λ command network traffic third b. none command network traffic third
          (subst (λ (o : List ℕ). IsBundle o command network traffic third) (sym is) b),
    ))
