use Rattle.std.proofs.Common.{arith, rules}
use Rattle.fx_wire.proofs.message.parse.Goals as goal

pub returns : goal.returns
returns c = first_of (grind arith, search rules)

pub returns-then-u16_at-ne10 : goal.returns-then-u16_at-ne10
returns-then-u16_at-ne10 c = first_of (grind arith, search rules)

pub returns-then-octets-length : goal.returns-then-octets-length
returns-then-octets-length c = first_of (grind arith, search rules)

pub returns-in-Err : goal.returns-in-Err
returns-in-Err c = first_of (grind arith, search rules)
