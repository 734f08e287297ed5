use Rattle.std.proofs.Common.{arith, rules}
use Rattle.std.proofs.Common.{◌≡◌, ◌≢◌, ℕ, List, take, Some, Result, ap, ◌∙◌, subst}
use Rattle.std.specs.Prelude.{IfErr}
use Rattle.fx_base.specs.declared.fault.Fault.{Fault}
use Rattle.fx_base.specs.declared.fault.Place.TheVariants as places
use Rattle.fx_base.specs.Fault.{fault_at}
use Rattle.fx_session.specs.Streams.{SessionState, after_piece}
use Rattle.fx_link.specs.Ongoing.{Ongoing}
use Rattle.fx_link.proofs.OctetsCarried.{starves}
use Rattle.fx_link.proofs.link.Link.carry.Goals as goal

pub returns-in-Err-clause-err : goal.returns-in-Err-clause-err
returns-in-Err-clause-err c = λ none.
    let octets : c.as_slice.result.now ≡ c.args.self.now.queue = c.as_slice.ensures.value
    ∙ ap (λ (o : Ongoing). o.queue) c.self.view_is in
    let receiver : c.self.inside.session ≡ c.args.self.now.receiver = ap (λ (o : Ongoing). o.receiver) c.self.view_is in
    let read : c.feed.new.self.fault ≢ Some 900 → c.feed.new.self
    ≡ after_piece c.args.self.now.receiver (take c.args.count c.args.self.now.queue) =
    λ k. c.feed.ensures.fed k ∙ ap (λ (st : SessionState). after_piece st (take c.args.count c.as_slice.result.now))
    receiver ∙ ap (λ (l : List ℕ). after_piece c.args.self.now.receiver (take c.args.count l)) octets in
    let err : IfErr c.feed.result (λ e. e ≡ fault_at 900 places.None) =
    starves c.args.self.now.receiver c.feed.new.self c.args.count c.args.self.now.queue c.feed.result
    c.feed.ensures.answer read none in
    subst (λ (r : Result (Unit {0}) Fault). IfErr r (λ e. e ≡ fault_at 900 places.None)) c.in-Err.is err

pub returns-clause-ok : goal.returns-clause-ok
returns-clause-ok c = first_of (grind arith, search rules)
