use Rattle.uz_scan.proofs.ScanStateLaws.{seen_again}
use Rattle.uz_scan.proofs.scanner.Scanner.of_state.Goals as goal

pub returns-clause-stands : goal.returns-clause-stands
returns-clause-stands c = seen_again c.args.state.now c.of_parts.result c.of_parts.ensures.parts
