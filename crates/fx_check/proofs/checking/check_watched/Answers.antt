use Rattle.std.proofs.Common.{◌⊎◌, IfErr, List, OnOk, inl, inr, refl, subst}
use Rattle.std.proofs.lemmas.Result.{err_from_is_err_and}
use Rattle.fx_base.specs.Lines.{Fails}
use Rattle.fx_plan.specs.Tables.{net_of}
use Rattle.fx_check.specs.Outcomes.{MayBeAccepted, MayBeRefused}
use Rattle.fx_tables.specs.Network.{Net}
use Rattle.fx_traffic.specs.Targets.{Target, targets_of}
use Rattle.fx_check.proofs.FirstRefusals.{err_gives}
use Rattle.fx_check.proofs.Numbers.{from_memory}
use Rattle.fx_check.proofs.PlanAndTraffic.{accepts, certificate, modulo, once}
use Rattle.fx_check.proofs.checking.check_watched.Goals as goal

pub returns-in_err-checker : goal.returns-in_err-checker
returns-in_err-checker g c =
    let p = err_from_is_err_and c.from_residual.result c.from_residual.ensures.1 in
    let memory = c.in_err-checker.ensures.err in
    rw (p.1, p.2) (record {
      once = tt;
      modulo = tt;
      certificate = tt;
      ok = tt;
      err = inl (memory, refl);
      accepts =
          λ text reported is. inl (memory, refl);
      numbers = from_memory c.args.lines.now _ memory;
    })

pub returns : goal.returns
returns g c =
    let net = net_of c.args.plan.now in
    let classes = c.args.traffic.now in
    let lines = c.args.lines.now in
    let new = c.take_all-outcome.new.lines in
    let result = c.take_all-outcome.result in
    let network = c.in_ok-checker.ensures.network in
    let regions = c.in_ok-checker.ensures.regions in
    let same = c.in_ok-checker.ensures.net in
    let all = c.in_ok-checker.ensures.targets in
    let ok = subst (λ (n : Net). OnOk result (MayBeAccepted n (targets_of classes) lines)) same
    (subst (λ (ts : List Target). OnOk result (MayBeAccepted c.in_ok-checker.checker.net ts lines)) all
    c.take_all-outcome.ensures.ok) in
    let err = subst (λ (n : Net). IfErr result
    (λ e. Fails lines new e ⊎ MayBeRefused n (targets_of classes) lines new e)) same
    (subst (λ (ts : List Target). IfErr result
    (λ e. Fails lines new e ⊎ MayBeRefused c.in_ok-checker.checker.net ts lines new e)) all
    c.take_all-outcome.ensures.err) in
    record {
      once = once net classes lines network regions result ok;
      modulo = modulo net classes lines network regions result ok;
      certificate = certificate net classes lines network regions result ok;
      ok = ok;
      err = err_gives result err (λ e h. inr h);
      accepts = accepts net classes lines new result network regions err;
      numbers = c.take_all-outcome.ensures.numbers;
    }
