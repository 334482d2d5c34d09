-- The Viking as a machine, over the meaning of a bus.
use Rattle.std.specs.Prelude.{◌%◌}
use Rattle.word.specs.declared.instructions.Instruction.{Instruction}
use Rattle.word.specs.Words.{encoded, decoded}
use Rattle.word.specs.Laws.{HasByte}
use Rattle.bus.specs.Meaning.{Meaning, Facts}
use Rattle.bus.specs.Calls.{high_byte, low_byte, word_of, peek, give, take}
use Rattle.bus.specs.declared.faults.BusFault.{BusFault}
use Rattle.machine.specs.Machine.{Machine}
use Rattle.board.specs.Core.{Core, Fits}
use Rattle.board.specs.Step.{Refusal, act}

-- The machine. Its words are the instructions whose immediate, if there is one, is a byte. A number given counts modulo 256.
abbrev pub viking : Machine
viking = record {
  Core = Core;
  Bus = Meaning;
  Word = Instruction;
  Refusal = Refusal;
  Denial = BusFault;
  at = λ c. c.next;
  limit = 65536;
  Fits = Fits;
  Sound = Facts;
  Valid = HasByte;
  high = λ i. high_byte (encoded i);
  low = λ i. low_byte (encoded i);
  decode = λ high low. decoded (word_of high low);
  act = act;
  peek = peek;
  give = λ b v. give b (v % 256);
  take = take;
}
