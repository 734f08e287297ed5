-- The text of a refutation, in the text versions of a run.
use Rattle.std.specs.Prelude.{ℕ, ◌≤◌, List, [], ◌∷◌, ◌++◌, map, length, codes}
use Rattle.std.specs.List.{AllByRecursion, join_with_byte}
use Rattle.fx_run_text.specs.declared.text_version.TextVersion.{TextVersion}
use Rattle.fx_run_text.specs.declared.text_version.TextVersion.TheVariants.{One, Two}
use Rattle.fx_run_text.specs.RunText.{packet_words, step_words, last_words, lines_text, IsPacket, CanSay, IsStep}
use Rattle.fx_run_text.specs.declared.step.Step.{Step}
use Rattle.fx_machine.specs.Limits.{step_limit}
use Rattle.fx_refute.specs.Refutations.{Refutation}

abbrev pub first_words : TextVersion → List (List ℕ)
first_words One = codes "once-refutation" ∷ codes "1" ∷ []
first_words Two = codes "once-refutation" ∷ codes "2" ∷ []

-- the lines of a refutation: the first, that of the packet, one for each step, and the last
abbrev pub refutation_lines : TextVersion → Refutation → List (List ℕ)
refutation_lines version r =
    map (join_with_byte 32) (first_words version ∷ packet_words version r.packet
    ∷ (map step_words r.steps ++ last_words ∷ []))

abbrev pub refutation_text : TextVersion → Refutation → List ℕ
refutation_text version r = lines_text (refutation_lines version r)

-- the lines of steps
abbrev pub steps_text : List Step → List ℕ
steps_text steps = lines_text (map (join_with_byte 32) (map step_words steps))

-- a refutation that has a text in this version
pub record IsRefutation (version : TextVersion) (r : Refutation) : Type 0 where
  pub packet : IsPacket r.packet × CanSay version r.packet.fields
  pub steps : AllByRecursion IsStep r.steps
  pub few : length r.steps ≤ step_limit
