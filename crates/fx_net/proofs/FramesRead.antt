-- Frames that are read and lines that are obeyed, one after another.
use Rattle.std.proofs.Common.{◌≡◌, ◌⊎◌, inl, inr, ℕ, Bool, true, false, List, [], ◌∷◌, ◌++◌, Ok, refl, sym, ap, ◌∙◌, subst}
use Rattle.fx_base.specs.declared.fault.Fault.{Fault}
use Rattle.fx_base.specs.Lines.{Lines, AtLine, AtTextEnd, AdvancesToLine}
use Rattle.fx_link.specs.Links.{Put}
use Rattle.fx_pcap.specs.Captures as captures
use Rattle.fx_topology.specs.declared.network.NetworkDocument.{NetworkDocument}
use Rattle.fx_ranks.specs.Ranks.{IsWhole}
use Rattle.fx_plan.specs.Tables.{net_of}
use Rattle.fx_net.specs.Contents.{Contents}
use Rattle.fx_net.specs.Doings.{EmptiesNetwork}
use Rattle.fx_net.specs.Running.{RunningNetwork, FailsOutside, RefusesLine, RefusesRun, line_refused, ReadsRest, Closes, Obeys, ReadsOne, ReadsFrames, HasRead, GoesOnToFrames, HasGoneOn, ObeysLines, HasObeyed}

frames_more : (frames : List captures.Seen) (old mid new : RunningNetwork) (at on to : captures.CaptureState)
    (before put after : Put)
    → ReadsFrames frames old mid at on before put → captures.AtFrame on to → ReadsOne mid new to.seen put after
    → ReadsFrames (frames ++ to.seen ∷ []) old new at to before after
frames_more [] old mid new at on to before put after e f g = (
  new,
  to,
  after,
  subst (λ (r : captures.CaptureState). captures.AtFrame r to) e.1 f,
  refl,
  subst (λ (r : RunningNetwork). ReadsOne r new to.seen before after) e.0
      (subst (λ (p : Put). ReadsOne mid new to.seen p after) e.2 g),
  (refl, refl, refl),
)
frames_more (frame ∷ frames) old mid new at on to before put after e f g =
    (e.0, e.1, e.2, e.3, e.4, e.5, frames_more frames e.0 mid new e.1 on to e.2 put after e.6 f g)

-- one frame more
pub reads_more : (old mid new : RunningNetwork) (at on to : captures.CaptureState) (before put after : Put)
    → HasRead old mid at on before put → captures.AtFrame on to → ReadsOne mid new to.seen put after
    → HasRead old new at to before after
reads_more old mid new at on to before put after e f g =
    record {
      frames = e.frames ++ to.seen ∷ [];
      read =
          frames_more e.frames old mid new at on to before put after e.read f g;
    }

gone_more : (frames : List captures.Seen) (at on to : captures.CaptureState) → GoesOnToFrames at on frames
    → captures.AtFrame on to → GoesOnToFrames at to (frames ++ to.seen ∷ [])
gone_more [] at on to e f = (to, subst (λ (r : captures.CaptureState). captures.AtFrame r to) e f, refl, refl)
gone_more (frame ∷ frames) at on to e f = (e.0, e.1, e.2, gone_more frames e.0 on to e.3 f)

pub goes_more : (at on to : captures.CaptureState) → HasGoneOn at on → captures.AtFrame on to → HasGoneOn at to
goes_more at on to e f = (e.0 ++ to.seen ∷ [], gone_more e.0 at on to e.1 f)

lines_more : (lines : List (List ℕ)) (old mid new : RunningNetwork) (at on to : captures.CaptureState)
    (from behind last : Lines) (before put after : Put)
    → ObeysLines lines old mid at on from behind before put → AtLine behind last
    → Obeys last.line mid new on to put after
    → ObeysLines (lines ++ last.line ∷ []) old new at to from last before after
lines_more [] old mid new at on to from behind last before put after e f g = (
  new,
  to,
  last,
  after,
  subst (λ (l : Lines). AtLine l last) e.2 f,
  refl,
  subst (λ (r : RunningNetwork). Obeys last.line r new at to before after) e.0
      (subst (λ (r : captures.CaptureState). Obeys last.line mid new r to before after) e.1
      (subst (λ (p : Put). Obeys last.line mid new on to p after) e.3 g)),
  (refl, refl, refl, refl),
)
lines_more (line ∷ lines) old mid new at on to from behind last before put after e f g =
    (e.0, e.1, e.2, e.3, e.4, e.5, e.6, lines_more lines e.0 mid new e.1 on to e.2 behind last e.3 put after e.7 f g)

-- one line more
pub obeys_more : (old mid new : RunningNetwork) (at on to : captures.CaptureState) (from behind last : Lines)
    (before put after : Put)
    → HasObeyed old mid at on from behind before put → AtLine behind last → Obeys last.line mid new on to put after
    → HasObeyed old new at to from last before after
obeys_more old mid new at on to from behind last before put after e f g =
    record {
      lines = e.lines ++ last.line ∷ [];
      obeyed =
          lines_more e.lines old mid new at on to from behind last before put after e.obeyed f g;
    }

-- ---- what stays

frames_rest : (frames : List captures.Seen) (old new : RunningNetwork) (at to : captures.CaptureState)
    (before after : Put) → ReadsFrames frames old new at to before after → new ≡ record old { contents = new.contents }
frames_rest [] old new at to before after e =
    subst (λ (r : RunningNetwork). r ≡ record old { contents = r.contents }) (sym e.0) refl
frames_rest (frame ∷ frames) old new at to before after e =
    frames_rest frames e.0 new e.1 to e.2 after e.6
    ∙ ap (λ (r : RunningNetwork). record r { contents = new.contents }) e.5.rest

-- ---- the closing phase

pub closes_by : (old mid : RunningNetwork) (at to : captures.CaptureState) (before put after : Put) (ranked : List ℕ)
    (contents : Contents)
    → ReadsRest old mid at to before put → IsWhole (net_of mid.network) ranked
    → EmptiesNetwork (net_of mid.network) ranked put mid.contents after contents
    → Closes old (record mid { contents = contents }) at to before after
closes_by old mid at to before put after ranked contents reads whole empties =
    let rest = frames_rest reads.read.frames old mid at reads.last before put reads.read.read in
    let network : mid.network ≡ old.network = ap (λ (r : RunningNetwork). r.network) rest in
    record {
      mid = mid;
      put = put;
      reads = reads;
      ranked = ranked;
      whole = subst (λ (n : NetworkDocument). IsWhole (net_of n) ranked) network whole;
      empties = subst (λ (n : NetworkDocument). EmptiesNetwork (net_of n) ranked put mid.contents after contents)
          network empties;
      rest = ap (λ (r : RunningNetwork). record r { contents = contents }) rest;
    }

-- ---- a reader of lines

pub at_line_of : (old new : Lines) (there : Bool) → AdvancesToLine old new (Ok there) → there ≡ true → AtLine old new
at_line_of old new true h e = h
at_line_of old new false h e = absurd cc

pub at_text_end_of : (old new : Lines) (there : Bool) → AdvancesToLine old new (Ok there) → there ≡ false
    → AtTextEnd old new
at_text_end_of old new true h e = absurd cc
at_text_end_of old new false h e = h

-- ---- a line that a reader lends

pub obeys_lent : (old mid new : RunningNetwork) (at on to : captures.CaptureState) (from behind last : Lines)
    (before put after : Put) (line : List ℕ)
    → HasObeyed old mid at on from behind before put → AtLine behind last → line ≡ last.line
    → Obeys line mid new on to put after
    → HasObeyed old new at to from last before after
obeys_lent old mid new at on to from behind last before put after line e f is g =
    obeys_more old mid new at on to from behind last before put after e f
    (subst (λ (l : List ℕ). Obeys l mid new on to put after) is g)

pub line_fault : (old mid : RunningNetwork) (at on to : captures.CaptureState) (from behind last : Lines)
    (before put : Put) (failed : Bool) (line : List ℕ) (number : ℕ) (e : Fault)
    → HasObeyed old mid at on from behind before put → AtLine behind last → line ≡ last.line → number ≡ last.number
    → FailsOutside failed e ⊎ RefusesLine line number mid on to e
    → FailsOutside failed e ⊎ RefusesRun old at to from last before e
line_fault old mid at on to from behind last before put failed line number e obeyed f is number_is (inl outside) =
    inl outside
line_fault old mid at on to from behind last before put failed line number e obeyed f is number_is (inr h) =
    inr (line_refused mid on behind put obeyed f
    (subst (λ (n : ℕ). RefusesLine last.line n mid on to e) number_is
    (subst (λ (l : List ℕ). RefusesLine l number mid on to e) is h)))
