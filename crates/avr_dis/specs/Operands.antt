-- The texts of the operands that the program keeps.
use Rattle.std.specs.Prelude.{ℕ, List, [], ◌∷◌, ◌+◌, ◌*◌, codes, decimal}
use Rattle.avr_dis.specs.declared.operands.PointerForm.{PointerForm}
use Rattle.avr_dis.specs.declared.operands.PointerForm.TheVariants as step
use Rattle.avr_dis.specs.declared.operands.Operand.{Operand}
use Rattle.avr_dis.specs.declared.operands.Operand.TheVariants.{Register, UpperRegister, Pair, UpperPair, Number, Pointer, Displaced}
use Rattle.avr_dis.specs.declared.operands.Operand.TheVariants.{Relative7, Relative12, Absolute}
use Rattle.avr_dis.specs.declared.operands.Operands.{Operands}
use Rattle.avr_dis.specs.declared.operands.Operands.TheVariants.{Nothing, One, Two}
use Rattle.avr_dis.specs.Text.{displaced, register, relative}

abbrev pub pointer_text : PointerForm → List ℕ
pointer_text step.X = codes "X"
pointer_text step.XInc = codes "X+"
pointer_text step.XDec = codes "-X"
pointer_text step.YInc = codes "Y+"
pointer_text step.YDec = codes "-Y"
pointer_text step.Z = codes "Z"
pointer_text step.ZInc = codes "Z+"
pointer_text step.ZDec = codes "-Z"

abbrev pub operand_text : Operand → List ℕ
operand_text (Register d) = register d
operand_text (UpperRegister d) = register (16 + d)
operand_text (Pair d) = register (2 * d)
operand_text (UpperPair d) = register (24 + 2 * d)
operand_text (Number k) = decimal k
operand_text (Pointer p) = pointer_text p
operand_text (Displaced y q) = displaced y q
operand_text (Relative7 k) = relative 7 k
operand_text (Relative12 k) = relative 12 k
operand_text (Absolute k) = decimal (2 * k)

abbrev pub operand_texts : Operands → List (List ℕ)
operand_texts Nothing = []
operand_texts (One a) = operand_text a ∷ []
operand_texts (Two a b) = operand_text a ∷ operand_text b ∷ []
