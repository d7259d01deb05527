-- What a text out of turn lacks. No text that a caller can come by meets either of these: it is `begin`
-- alone that makes a text whose names line is due, with nothing written, and one byte at least is
-- written before an end. Neither is `unfoldable`, so no proof outside this file can look into it: the
-- check refuses every call that asks for one, and says its name.
use Rattle.std.specs.Prelude.{◌≡◌, ◌<◌}
use Rattle.writer.specs.declared.writer.Naming.{Naming}
use Rattle.writer.specs.declared.writer.Ended.{Ended}

-- the names line of the text is written
pub WriteTheNamesFirst : Naming → Type 0
WriteTheNamesFirst text = 0 < text.at

-- the text is another one, of which nothing is written
pub BeginAnotherText : Ended → Type 0
BeginAnotherText text = text.at ≡ 0
