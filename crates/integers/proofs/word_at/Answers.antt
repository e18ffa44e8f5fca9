-- `integers::word_at` meets its contract. Assumes nothing.
use mathlib.Core.Path.{◌∙◌, ap}
use mir.Syntax.{w32}
use mir.Val.{to_z}
use Rattle.integers.specs.Bytes.{word_at}
use Rattle.integers.specs.Words.{held}
use Rattle.integers.proofs.word_at.Goals as goal

pub returns : goal.returns
unfolding word_at
returns c = held c.signed.type_inv (c.signed.ensures ∙ ap (to_z w32) c.bits_at.ensures)
