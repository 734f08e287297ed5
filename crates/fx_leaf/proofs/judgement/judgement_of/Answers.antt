use Rattle.std.proofs.Common.{ap, subst, IfErr, IfOk, Result, Some, ℕ}
use Rattle.fx_elements.specs.declared.axis.Axis.{Axis}
use Rattle.fx_leaf.specs.declared.path.PathFate.{PathFate}
use Rattle.fx_leaf.specs.declared.verdict.Fate.{Fate}
use Rattle.fx_leaf.specs.declared.verdict.Fate.TheVariants.{Many, Differing, Unassigned}
use Rattle.fx_leaf.specs.Leaves.{IsPathFate}
use Rattle.fx_leaf.specs.Splits.{IsSplit}
use Rattle.fx_leaf.proofs.JudgementsHold.{cut_judgement, fate_judgement, never_judgement, one_counts, once_judgement}
use Rattle.fx_leaf.proofs.judgement.judgement_of.Goals as goal

pub returns-in-Err : goal.returns-in-Err
returns-in-Err c = λ net path region is_net r ok err.
    cut_judgement net path region c.in-Err.axis c.in-Err.at
    (subst (λ (k : Result PathFate (Axis × ℕ)). IfErr k (λ s. IsSplit net path region s.0 s.1)) c.in-Err.is err)

pub returns-in-Some : goal.returns-in-Some
returns-in-Some c = λ net path region is_net r ok err.
    let k = subst (λ (k : Result PathFate (Axis × ℕ)). IfOk k (IsPathFate net path region)) c.in-Ok.is ok in
    once_judgement net path region is_net r (Some c.in-Ok.known.fate) k.verdict c.in-Ok.known.counted
    (k.counted c.in-Once.is) (ap (λ (f : Fate). Some f) c.in-Once.is) c.in-Some.counted c.in-Some.is

pub returns-in-None : goal.returns-in-None
returns-in-None c = λ net path region is_net r ok err.
    let k = subst (λ (k : Result PathFate (Axis × ℕ)). IfOk k (IsPathFate net path region)) c.in-Ok.is ok in
    absurd (one_counts net path region is_net r (Some c.in-Ok.known.fate) k.verdict c.in-Ok.known.counted
    (k.counted c.in-Once.is) (ap (λ (f : Fate). Some f) c.in-Once.is) c.in-None.is)

pub returns-in-Never : goal.returns-in-Never
returns-in-Never c = λ net path region is_net r ok err.
    let k = subst (λ (k : Result PathFate (Axis × ℕ)). IfOk k (IsPathFate net path region)) c.in-Ok.is ok in
    never_judgement net path region is_net r (Some c.in-Ok.known.fate) k.verdict
    (ap (λ (f : Fate). Some f) c.in-Never.is)

pub returns-in-Many : goal.returns-in-Many
returns-in-Many c = λ net path region is_net r ok err.
    let k = subst (λ (k : Result PathFate (Axis × ℕ)). IfOk k (IsPathFate net path region)) c.in-Ok.is ok in
    fate_judgement net path region is_net r (Some c.in-Ok.known.fate) k.verdict Many
    (ap (λ (f : Fate). Some f) c.in-Many.is)

pub returns-in-Differing : goal.returns-in-Differing
returns-in-Differing c = λ net path region is_net r ok err.
    let k = subst (λ (k : Result PathFate (Axis × ℕ)). IfOk k (IsPathFate net path region)) c.in-Ok.is ok in
    fate_judgement net path region is_net r (Some c.in-Ok.known.fate) k.verdict Differing
    (ap (λ (f : Fate). Some f) c.in-Differing.is)

pub returns-in-Unassigned : goal.returns-in-Unassigned
returns-in-Unassigned c = λ net path region is_net r ok err.
    let k = subst (λ (k : Result PathFate (Axis × ℕ)). IfOk k (IsPathFate net path region)) c.in-Ok.is ok in
    fate_judgement net path region is_net r (Some c.in-Ok.known.fate) k.verdict Unassigned
    (ap (λ (f : Fate). Some f) c.in-Unassigned.is)
