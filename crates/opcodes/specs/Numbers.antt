-- The number of each instruction in a file.
use Rattle.std.specs.Prelude.{ℕ}
use Rattle.opcodes.specs.declared.opcode.Opcode.{Opcode}
use Rattle.opcodes.specs.declared.opcode.Opcode.TheVariants.{Push, Nil, Load, Store, Drop, Add, Less, Jump, Branch, Brnull, New, Get, Put, Post, Return}

abbrev pub opcode_number : Opcode → ℕ
opcode_number Push = 0
opcode_number Nil = 1
opcode_number Load = 2
opcode_number Store = 3
opcode_number Drop = 4
opcode_number Add = 5
opcode_number Less = 6
opcode_number Jump = 7
opcode_number Branch = 8
opcode_number Brnull = 9
opcode_number New = 10
opcode_number Get = 11
opcode_number Put = 12
opcode_number Post = 13
opcode_number Return = 14
