use Rattle.c_values.proofs.AskedLemmas.{of_parts}
use Rattle.c_values.proofs.reading.read_request.Goals as goal

pub returns : goal.returns
returns c = of_parts c.args.request.now c.args.text.now c.command.result c.if-request-eq10.false c.command.ensures.read
    c.command.ensures.room c.command.ensures.some c.command.ensures.fits
