-- The row that fills the list before the call.
use Rattle.std.specs.Prelude.{pos, replicate}
use Rattle.meaning.specs.declared.Row.{Row}

abbrev pub marked : Row
marked =
    record {
      point = record { a = pos 7; b = pos 7 };
      count = 7;
      first = record { x = pos 7; y = pos 7; z = pos 7 };
      last = record { x = pos 7; y = pos 7; z = pos 7 };
      soak = replicate 6 7;
      drain = replicate 6 7;
    }
