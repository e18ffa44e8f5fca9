-- `port_fill::fill_stream` meets its contract: the heads are filled at all processes before the rows that are made of them. Assumes
-- nothing.
use mathlib.Core.Path.{refl}
use Rattle.lanes.specs.All.{seen_of}
use Rattle.port_fill.specs.Strung.{ends_fillable, ports_fillable, strung}
use Rattle.port_fill.proofs.fill_stream.Goals as goal

pub put_ends-pipes-requires : goal.put_ends-pipes-requires
put_ends-pipes-requires c =
    let f = c.requires.0.flowing in
    ends_fillable c.requires.0 (seen_of f.flows refl refl f.of_spans f.long c.requires.1)

pub put_ports-requires : goal.put_ports-requires
put_ports-requires c =
    let f = c.requires.0.flowing in
    ports_fillable c.requires.0 (seen_of f.flows refl refl f.of_spans f.long c.requires.1) c.put_ends-pipes.ensures.1

pub returns : goal.returns
returns c =
    let o = c.put_ends-pipes.ensures in
    (o.0, strung c.requires.0 c.args.ports.now o.2 c.put_ports.ensures)
