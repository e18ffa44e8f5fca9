-- `words::store` meets its contract: a part of the list is replaced in one piece. Assumes nothing.
use Rattle.std.proofs.Common.{refl, sym, ◌∙◌, arith}
use Rattle.std.proofs.lemmas.Slice.{put_mid-paste}
use Rattle.words.specs.Stored.{stored_paste}
use Rattle.words.proofs.store.Goals as goal

pub returns : goal.returns
returns c =
    put_mid-paste _ _ _ _ _ _ c.copy_from_slice.ensures.after (omega arith) refl
    ∙ sym (stored_paste _ _ _ _ c.requires (omega arith))
