-- `port_fill::fill_ports` meets its contract. Assumes nothing.
use native.Mathlib.Omega.{arith}
use Rattle.port_fill.proofs.fill_ports.Goals as goal

pub stride_of-stride-requires : goal.stride_of-stride-requires
stride_of-stride-requires c = c.requires.0

pub fill_streams-requires : goal.fill_streams-requires
fill_streams-requires c =
    let p = c.requires in (
      record {
        described = p.0;
        laid = p.1;
        narrow = c.stride_of-stride.ensures.1;
        strides = c.stride_of-stride.ensures.0;
        of_spans = p.2;
        long = p.3;
      },
      p.4,
    )
