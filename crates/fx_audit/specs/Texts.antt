-- What an answer prints, for any input.
use Rattle.std.specs.Prelude.{◌≡◌, ◌⊎◌, ℕ, List, [], ◌∷◌, ◌++◌, codes}
use Rattle.fx_base.specs.declared.fault.Fault.{Fault}
use Rattle.fx_layout.specs.Keys.{Layout}
use Rattle.fx_machine.specs.States.{State}
use Rattle.fx_collect.specs.Totals.{Totals}
use Rattle.fx_checker.specs.declared.answer.Answer.{Answer}
use Rattle.fx_checker.specs.declared.answer.Answer.TheVariants.{Yes, No, Unknown}
use Rattle.fx_cert.specs.declared.item.Item.{Item}
use Rattle.fx_run_text.specs.declared.text_version.TextVersion.TheVariants.{Two}
use Rattle.fx_refute.specs.RefutationText.{refutation_text}
use Rattle.fx_refute.specs.Refutations.{Refutation}
use Rattle.fx_search.specs.Found.{certificate_text}
use Rattle.fx_audit.specs.Audits.{unknown_line}
use Rattle.fx_checker.specs.Checks.{no_line, IsCheckText}
use Rattle.fx_audit.specs.Confirms.{RefutesNothing, refuted_text}
use Rattle.fx_audit.specs.Metering.{IsMeteredText}
use Rattle.fx_audit.specs.Replay.{IsTextOf}
use Rattle.fx_audit.specs.Streams.{IsTotalsText}
use Rattle.fx_audit.specs.Sums.{IsTextOfSum}
use Rattle.fx_sums.specs.Sums.{Sum}

-- a lint without findings prints `ok`
abbrev pub ok_line : List ℕ
ok_line = codes "ok" ++ 10 ∷ []

abbrev pub IsLintText : Answer → List ℕ → Type 0
IsLintText answer text = (answer ≡ Yes) × (text ≡ ok_line)

-- a replay prints the totals of a state
abbrev pub IsReplayText : Answer → List ℕ → Type 0
IsReplayText answer text = (answer ≡ Yes) × ((layout : Layout) × (s : State) × IsTextOf layout s text)

-- collecting prints a stream's totals, and the numbers of gaps and skipped records
abbrev pub IsCollectText : Answer → List ℕ → Type 0
IsCollectText answer text = (answer ≡ Yes)
    × ((totals : Totals) × (gaps : ℕ) × (skipped : ℕ) × IsTotalsText totals gaps skipped text)

-- a run prints its totals, and the numbers of skipped frames of its capture
abbrev pub IsRunText : Answer → List ℕ → Type 0
IsRunText answer text = (answer ≡ Yes) × ((totals : Totals) × (other : ℕ) × (malformed : ℕ)
    × IsMeteredText totals other malformed text)

-- a sum prints totals, and the notes beside them
abbrev pub IsSumText : Answer → List ℕ → Type 0
IsSumText answer text = (answer ≡ Yes) × ((sum : Sum) × IsTextOfSum sum text)

-- a confirmation prints two totals or `no`, according to its answer
abbrev pub IsConfirmText : Answer → List ℕ → Type 0
IsConfirmText Yes text = (ran : Totals) × (plain : Totals) × (text ≡ refuted_text ran plain)
IsConfirmText No text = (e : Fault) × RefutesNothing e.number × (text ≡ no_line e)
IsConfirmText Unknown text = ⊥

-- an audit prints a certificate, a refutation or `unknown 601`, according to its answer
abbrev pub IsAuditText : Answer → List ℕ → Type 0
IsAuditText Yes text = (items : List Item) × (text ≡ certificate_text items)
IsAuditText No text = (r : Refutation) × (text ≡ refutation_text Two r)
IsAuditText Unknown text = text ≡ unknown_line

-- a bundle's command is a replay, a check, a confirmation or an audit
abbrev pub IsBundleText : Answer → List ℕ → Type 0
IsBundleText answer text = IsReplayText answer text
    ⊎ (IsCheckText answer text ⊎ (IsConfirmText answer text ⊎ IsAuditText answer text))
