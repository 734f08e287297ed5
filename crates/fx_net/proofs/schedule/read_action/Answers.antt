use Rattle.fx_net.proofs.ScheduleLines.{reads_line}
use Rattle.fx_net.proofs.schedule.read_action.Goals as goal

pub returns : goal.returns
returns c = reads_line c.args.line.now c.read_line.result c.read_line.ensures
