use Rattle.route_texts.proofs.VrptwLaws.{read-says, says-one, fault-says}
use Rattle.route_texts.proofs.vrptw_reader.read_vrptw.Goals as goal

pub returns-clause-says : goal.returns-clause-says
returns-clause-says c = read-says c.args.bytes.now c.read_lines.result c.read_lines.ensures.gives c.read_lines.ensures.fits

pub returns-clause-only : goal.returns-clause-only
returns-clause-only c = says-one c.args.bytes.now c.read_lines.result c.read_lines.ensures.gives

pub returns-clause-refused : goal.returns-clause-refused
returns-clause-refused c = fault-says c.args.bytes.now c.read_lines.result c.read_lines.ensures.gives
