-- Another bundle of the same octets would have the parts that were found, so none has a part that wasn't.
use Rattle.std.proofs.Common.{◌≡◌, [], false, true, length, ap, sym, ◌∙◌, ◌==◌}
use Rattle.fx_audit.proofs.Marks.{no_network, no_traffic, no_third, nothing_behind, bundle_of}
use Rattle.fx_audit.proofs.bundle.read_bundle.Goals as goal

pub returns-in_err-network-clause-none : goal.returns-in_err-network-clause-none
returns-in_err-network-clause-none c =
    rw c.from_residual-in_err-network.ensures
    (λ command network traffic third i. no_network c.args.bytes.now c.in_ok-command.rest.now network traffic third
    c.in_ok-command.command command c.in_ok-command.ensures.some c.in_err-network.ensures.none i)

pub returns-in_err-traffic-clause-none : goal.returns-in_err-traffic-clause-none
returns-in_err-traffic-clause-none c =
    rw c.from_residual-in_err-traffic.ensures
    (λ command network traffic third i. no_traffic c.args.bytes.now c.in_ok-command.rest.now
    c.in_ok-network.rest.now c.in_ok-network.network.now network traffic third c.in_ok-command.command command
    c.in_ok-command.ensures.some c.in_ok-network.ensures.some c.in_err-traffic.ensures.none i)

pub returns-in_err-third-clause-none : goal.returns-in_err-third-clause-none
returns-in_err-third-clause-none c =
    rw c.from_residual-in_err-third.ensures
    (λ command network traffic third i. no_third c.args.bytes.now c.in_ok-command.rest.now c.in_ok-network.rest.now
    c.in_ok-traffic.rest.now c.in_ok-network.network.now c.in_ok-traffic.traffic.now network traffic third
    c.in_ok-command.command command c.in_ok-command.ensures.some c.in_ok-network.ensures.some
    c.in_ok-traffic.ensures.some c.in_err-third.ensures.none i)

pub returns-then-not-is_empty-clause-none : goal.returns-then-not-is_empty-clause-none
returns-then-not-is_empty-clause-none c = λ command network traffic third i.
    let nothing : c.in_ok-third.rest.now ≡ [] =
    nothing_behind c.args.bytes.now c.in_ok-command.rest.now c.in_ok-network.rest.now c.in_ok-traffic.rest.now
    c.in_ok-third.rest.now c.in_ok-network.network.now c.in_ok-traffic.traffic.now c.in_ok-third.third.now network
    traffic third c.in_ok-command.command command c.in_ok-command.ensures.some c.in_ok-network.ensures.some
    c.in_ok-traffic.ensures.some c.in_ok-third.ensures.some i in
    let no_octets : length c.in_ok-third.rest.now ≡ 0 = ap length nothing in
    let empty : c.is_empty.result ≡ true = c.is_empty.ensures ∙ ap (λ n. n == 0) no_octets in
    let not_empty : c.is_empty.result ≡ false = c.if-not-is_empty.true in
    cc

pub returns-clause-some : goal.returns-clause-some
returns-clause-some c =
    bundle_of c.args.bytes.now c.in_ok-command.rest.now c.in_ok-network.rest.now c.in_ok-traffic.rest.now
    c.in_ok-third.rest.now c.in_ok-network.network.now c.in_ok-traffic.traffic.now c.in_ok-third.third.now
    c.in_ok-command.command c.in_ok-command.ensures.some c.in_ok-network.ensures.some c.in_ok-traffic.ensures.some
    c.in_ok-third.ensures.some (sym c.is_empty.ensures ∙ c.if-not-is_empty.false)
