use Rattle.std.proofs.Common.{refl}
use Rattle.avr_table.specs.declared.Instr.TheVariants as i
use Rattle.avr_text.specs.Fields.{field}
use Rattle.avr_text.specs.declared.mnemonics.Mnemonic.TheVariants as m
use Rattle.avr_text.proofs.RowTold.{none_told, one_told, twice_told, two_told}
use Rattle.avr_text.proofs.instructions.row_of.Goals as goal

pub returns-in-Add : goal.returns-in-Add
returns-in-Add c = two_told i.Add (field 5) (field 5) m.Add c.ranges.x c.ranges.y c.in-Add.is c.field.ensures c.field-in-Add.ensures refl

pub returns-in-Adc : goal.returns-in-Adc
returns-in-Adc c =
    two_told i.Adc (field 5) (field 5) m.Adc c.ranges.x c.ranges.y c.in-Adc.is c.field-in-Adc.ensures c.field-in-Adc-2.ensures refl

pub returns-in-Adiw : goal.returns-in-Adiw
returns-in-Adiw c =
    two_told i.Adiw (field 2) (field 6) m.Adiw c.ranges.x c.ranges.y c.in-Adiw.is c.field-in-Adiw.ensures c.field-in-Adiw-2.ensures refl

pub returns-in-Sub : goal.returns-in-Sub
returns-in-Sub c =
    two_told i.Sub (field 5) (field 5) m.Sub c.ranges.x c.ranges.y c.in-Sub.is c.field-in-Sub.ensures c.field-in-Sub-2.ensures refl

pub returns-in-Subi : goal.returns-in-Subi
returns-in-Subi c =
    two_told i.Subi (field 4) (field 8) m.Subi c.ranges.x c.ranges.y c.in-Subi.is c.field-in-Subi.ensures c.field-in-Subi-2.ensures refl

pub returns-in-Sbc : goal.returns-in-Sbc
returns-in-Sbc c =
    two_told i.Sbc (field 5) (field 5) m.Sbc c.ranges.x c.ranges.y c.in-Sbc.is c.field-in-Sbc.ensures c.field-in-Sbc-2.ensures refl

pub returns-in-Sbci : goal.returns-in-Sbci
returns-in-Sbci c =
    two_told i.Sbci (field 4) (field 8) m.Sbci c.ranges.x c.ranges.y c.in-Sbci.is c.field-in-Sbci.ensures c.field-in-Sbci-2.ensures refl

pub returns-in-Sbiw : goal.returns-in-Sbiw
returns-in-Sbiw c =
    two_told i.Sbiw (field 2) (field 6) m.Sbiw c.ranges.x c.ranges.y c.in-Sbiw.is c.field-in-Sbiw.ensures c.field-in-Sbiw-2.ensures refl

pub returns-in-And : goal.returns-in-And
returns-in-And c =
    two_told i.And (field 5) (field 5) m.And c.ranges.x c.ranges.y c.in-And.is c.field-in-And.ensures c.field-in-And-2.ensures refl

pub returns-in-Andi : goal.returns-in-Andi
returns-in-Andi c =
    two_told i.Andi (field 4) (field 8) m.Andi c.ranges.x c.ranges.y c.in-Andi.is c.field-in-Andi.ensures c.field-in-Andi-2.ensures refl

pub returns-in-Or : goal.returns-in-Or
returns-in-Or c = two_told i.Or (field 5) (field 5) m.Or c.ranges.x c.ranges.y c.in-Or.is c.field-in-Or.ensures c.field-in-Or-2.ensures refl

pub returns-in-Ori : goal.returns-in-Ori
returns-in-Ori c =
    two_told i.Ori (field 4) (field 8) m.Ori c.ranges.x c.ranges.y c.in-Ori.is c.field-in-Ori.ensures c.field-in-Ori-2.ensures refl

pub returns-in-Eor : goal.returns-in-Eor
returns-in-Eor c =
    two_told i.Eor (field 5) (field 5) m.Eor c.ranges.x c.ranges.y c.in-Eor.is c.field-in-Eor.ensures c.field-in-Eor-2.ensures refl

pub returns-in-Com : goal.returns-in-Com
returns-in-Com c = one_told i.Com (field 5) m.Com c.ranges.x c.ranges.y c.in-Com.is c.field-in-Com.ensures refl

pub returns-in-Neg : goal.returns-in-Neg
returns-in-Neg c = one_told i.Neg (field 5) m.Neg c.ranges.x c.ranges.y c.in-Neg.is c.field-in-Neg.ensures refl

pub returns-in-Inc : goal.returns-in-Inc
returns-in-Inc c = one_told i.Inc (field 5) m.Inc c.ranges.x c.ranges.y c.in-Inc.is c.field-in-Inc.ensures refl

pub returns-in-Dec : goal.returns-in-Dec
returns-in-Dec c = one_told i.Dec (field 5) m.Dec c.ranges.x c.ranges.y c.in-Dec.is c.field-in-Dec.ensures refl

pub returns-in-Mul : goal.returns-in-Mul
returns-in-Mul c =
    two_told i.Mul (field 5) (field 5) m.Mul c.ranges.x c.ranges.y c.in-Mul.is c.field-in-Mul.ensures c.field-in-Mul-2.ensures refl

pub returns-in-Muls : goal.returns-in-Muls
returns-in-Muls c =
    two_told i.Muls (field 4) (field 4) m.Muls c.ranges.x c.ranges.y c.in-Muls.is c.field-in-Muls.ensures c.field-in-Muls-2.ensures refl

pub returns-in-Mulsu : goal.returns-in-Mulsu
returns-in-Mulsu c =
    two_told i.Mulsu (field 3) (field 3) _ c.ranges.x c.ranges.y c.in-Mulsu.is c.field-in-Mulsu.ensures c.field-in-Mulsu-2.ensures refl

pub returns-in-Fmul : goal.returns-in-Fmul
returns-in-Fmul c =
    two_told i.Fmul (field 3) (field 3) m.Fmul c.ranges.x c.ranges.y c.in-Fmul.is c.field-in-Fmul.ensures c.field-in-Fmul-2.ensures refl

pub returns-in-Fmuls : goal.returns-in-Fmuls
returns-in-Fmuls c =
    two_told i.Fmuls (field 3) (field 3) _ c.ranges.x c.ranges.y c.in-Fmuls.is c.field-in-Fmuls.ensures c.field-in-Fmuls-2.ensures refl

pub returns-in-Fmulsu : goal.returns-in-Fmulsu
returns-in-Fmulsu c =
    two_told i.Fmulsu (field 3) (field 3) _ c.ranges.x c.ranges.y c.in-Fmulsu.is c.field-in-Fmulsu.ensures c.field-in-Fmulsu-2.ensures refl

pub returns-in-Rjmp : goal.returns-in-Rjmp
returns-in-Rjmp c = one_told i.Rjmp (field 12) m.Rjmp c.ranges.x c.ranges.y c.in-Rjmp.is c.field-in-Rjmp.ensures refl

pub returns-in-Ijmp : goal.returns-in-Ijmp
returns-in-Ijmp c = none_told i.Ijmp m.Ijmp c.ranges.x c.ranges.y c.in-Ijmp.is refl

pub returns-in-Jmp : goal.returns-in-Jmp
returns-in-Jmp c = one_told i.Jmp (field 15) m.Jmp c.ranges.x c.ranges.y c.in-Jmp.is c.field-in-Jmp.ensures refl

pub returns-in-Rcall : goal.returns-in-Rcall
returns-in-Rcall c = one_told i.Rcall (field 12) m.Rcall c.ranges.x c.ranges.y c.in-Rcall.is c.field-in-Rcall.ensures refl

pub returns-in-Icall : goal.returns-in-Icall
returns-in-Icall c = none_told i.Icall m.Icall c.ranges.x c.ranges.y c.in-Icall.is refl

pub returns-in-Call : goal.returns-in-Call
returns-in-Call c = one_told i.Call (field 15) m.Call c.ranges.x c.ranges.y c.in-Call.is c.field-in-Call.ensures refl

pub returns-in-Ret : goal.returns-in-Ret
returns-in-Ret c = none_told i.Ret m.Ret c.ranges.x c.ranges.y c.in-Ret.is refl

pub returns-in-Reti : goal.returns-in-Reti
returns-in-Reti c = none_told i.Reti m.Reti c.ranges.x c.ranges.y c.in-Reti.is refl

pub returns-in-Cpse : goal.returns-in-Cpse
returns-in-Cpse c =
    two_told i.Cpse (field 5) (field 5) m.Cpse c.ranges.x c.ranges.y c.in-Cpse.is c.field-in-Cpse.ensures c.field-in-Cpse-2.ensures refl

pub returns-in-Cp : goal.returns-in-Cp
returns-in-Cp c = two_told i.Cp (field 5) (field 5) m.Cp c.ranges.x c.ranges.y c.in-Cp.is c.field-in-Cp.ensures c.field-in-Cp-2.ensures refl

pub returns-in-Cpc : goal.returns-in-Cpc
returns-in-Cpc c =
    two_told i.Cpc (field 5) (field 5) m.Cpc c.ranges.x c.ranges.y c.in-Cpc.is c.field-in-Cpc.ensures c.field-in-Cpc-2.ensures refl

pub returns-in-Cpi : goal.returns-in-Cpi
returns-in-Cpi c =
    two_told i.Cpi (field 4) (field 8) m.Cpi c.ranges.x c.ranges.y c.in-Cpi.is c.field-in-Cpi.ensures c.field-in-Cpi-2.ensures refl

pub returns-in-Sbrc : goal.returns-in-Sbrc
returns-in-Sbrc c =
    two_told i.Sbrc (field 5) (field 3) m.Sbrc c.ranges.x c.ranges.y c.in-Sbrc.is c.field-in-Sbrc.ensures c.field-in-Sbrc-2.ensures refl

pub returns-in-Sbrs : goal.returns-in-Sbrs
returns-in-Sbrs c =
    two_told i.Sbrs (field 5) (field 3) m.Sbrs c.ranges.x c.ranges.y c.in-Sbrs.is c.field-in-Sbrs.ensures c.field-in-Sbrs-2.ensures refl

pub returns-in-Sbic : goal.returns-in-Sbic
returns-in-Sbic c =
    two_told i.Sbic (field 5) (field 3) m.Sbic c.ranges.x c.ranges.y c.in-Sbic.is c.field-in-Sbic.ensures c.field-in-Sbic-2.ensures refl

pub returns-in-Sbis : goal.returns-in-Sbis
returns-in-Sbis c =
    two_told i.Sbis (field 5) (field 3) m.Sbis c.ranges.x c.ranges.y c.in-Sbis.is c.field-in-Sbis.ensures c.field-in-Sbis-2.ensures refl

pub returns-in-Brbs : goal.returns-in-Brbs
returns-in-Brbs c =
    two_told i.Brbs (field 3) (field 7) m.Brbs c.ranges.x c.ranges.y c.in-Brbs.is c.field-in-Brbs.ensures c.field-in-Brbs-2.ensures refl

pub returns-in-Brbc : goal.returns-in-Brbc
returns-in-Brbc c =
    two_told i.Brbc (field 3) (field 7) m.Brbc c.ranges.x c.ranges.y c.in-Brbc.is c.field-in-Brbc.ensures c.field-in-Brbc-2.ensures refl

pub returns-in-Mov : goal.returns-in-Mov
returns-in-Mov c =
    two_told i.Mov (field 5) (field 5) m.Mov c.ranges.x c.ranges.y c.in-Mov.is c.field-in-Mov.ensures c.field-in-Mov-2.ensures refl

pub returns-in-Movw : goal.returns-in-Movw
returns-in-Movw c =
    two_told i.Movw (field 4) (field 4) m.Movw c.ranges.x c.ranges.y c.in-Movw.is c.field-in-Movw.ensures c.field-in-Movw-2.ensures refl

pub returns-in-Ldi : goal.returns-in-Ldi
returns-in-Ldi c =
    two_told i.Ldi (field 4) (field 8) m.Ldi c.ranges.x c.ranges.y c.in-Ldi.is c.field-in-Ldi.ensures c.field-in-Ldi-2.ensures refl

pub returns-in-Ld : goal.returns-in-Ld
returns-in-Ld c = one_told i.LdX (field 5) m.Ld c.ranges.x c.ranges.y c.in-Ld.is c.field-in-Ld.ensures refl

pub returns-in-Lds : goal.returns-in-Lds
returns-in-Lds c =
    two_told i.Lds (field 5) (field 16) m.Lds c.ranges.x c.ranges.y c.in-Lds.is c.field-in-Lds.ensures c.field-in-Lds-2.ensures refl

pub returns-in-St : goal.returns-in-St
returns-in-St c = one_told i.StX (field 5) m.St c.ranges.x c.ranges.y c.in-St.is c.field-in-St.ensures refl

pub returns-in-Sts : goal.returns-in-Sts
returns-in-Sts c =
    two_told i.Sts (field 16) (field 5) m.Sts c.ranges.x c.ranges.y c.in-Sts.is c.field-in-Sts.ensures c.field-in-Sts-2.ensures refl

pub returns-in-Lpm : goal.returns-in-Lpm
returns-in-Lpm c = none_told i.Lpm m.Lpm c.ranges.x c.ranges.y c.in-Lpm.is refl

pub returns-in-Spm : goal.returns-in-Spm
returns-in-Spm c = none_told i.Spm m.Spm c.ranges.x c.ranges.y c.in-Spm.is refl

pub returns-in-In : goal.returns-in-In
returns-in-In c = two_told i.In (field 5) (field 6) m.In c.ranges.x c.ranges.y c.in-In.is c.field-in-In.ensures c.field-in-In-2.ensures refl

pub returns-in-Out : goal.returns-in-Out
returns-in-Out c =
    two_told i.Out (field 6) (field 5) m.Out c.ranges.x c.ranges.y c.in-Out.is c.field-in-Out.ensures c.field-in-Out-2.ensures refl

pub returns-in-Push : goal.returns-in-Push
returns-in-Push c = one_told i.Push (field 5) m.Push c.ranges.x c.ranges.y c.in-Push.is c.field-in-Push.ensures refl

pub returns-in-Pop : goal.returns-in-Pop
returns-in-Pop c = one_told i.Pop (field 5) m.Pop c.ranges.x c.ranges.y c.in-Pop.is c.field-in-Pop.ensures refl

pub returns-in-Lsr : goal.returns-in-Lsr
returns-in-Lsr c = one_told i.Lsr (field 5) m.Lsr c.ranges.x c.ranges.y c.in-Lsr.is c.field-in-Lsr.ensures refl

pub returns-in-Ror : goal.returns-in-Ror
returns-in-Ror c = one_told i.Ror (field 5) m.Ror c.ranges.x c.ranges.y c.in-Ror.is c.field-in-Ror.ensures refl

pub returns-in-Asr : goal.returns-in-Asr
returns-in-Asr c = one_told i.Asr (field 5) m.Asr c.ranges.x c.ranges.y c.in-Asr.is c.field-in-Asr.ensures refl

pub returns-in-Swap : goal.returns-in-Swap
returns-in-Swap c = one_told i.Swap (field 5) m.Swap c.ranges.x c.ranges.y c.in-Swap.is c.field-in-Swap.ensures refl

pub returns-in-Bset : goal.returns-in-Bset
returns-in-Bset c = one_told i.Bset (field 3) m.Bset c.ranges.x c.ranges.y c.in-Bset.is c.field-in-Bset.ensures refl

pub returns-in-Bclr : goal.returns-in-Bclr
returns-in-Bclr c = one_told i.Bclr (field 3) m.Bclr c.ranges.x c.ranges.y c.in-Bclr.is c.field-in-Bclr.ensures refl

pub returns-in-Sbi : goal.returns-in-Sbi
returns-in-Sbi c =
    two_told i.Sbi (field 5) (field 3) m.Sbi c.ranges.x c.ranges.y c.in-Sbi.is c.field-in-Sbi.ensures c.field-in-Sbi-2.ensures refl

pub returns-in-Cbi : goal.returns-in-Cbi
returns-in-Cbi c =
    two_told i.Cbi (field 5) (field 3) m.Cbi c.ranges.x c.ranges.y c.in-Cbi.is c.field-in-Cbi.ensures c.field-in-Cbi-2.ensures refl

pub returns-in-Bst : goal.returns-in-Bst
returns-in-Bst c =
    two_told i.Bst (field 5) (field 3) m.Bst c.ranges.x c.ranges.y c.in-Bst.is c.field-in-Bst.ensures c.field-in-Bst-2.ensures refl

pub returns-in-Bld : goal.returns-in-Bld
returns-in-Bld c =
    two_told i.Bld (field 5) (field 3) m.Bld c.ranges.x c.ranges.y c.in-Bld.is c.field-in-Bld.ensures c.field-in-Bld-2.ensures refl

pub returns-in-Break : goal.returns-in-Break
returns-in-Break c = none_told i.Break m.Break c.ranges.x c.ranges.y c.in-Break.is refl

pub returns-in-Nop : goal.returns-in-Nop
returns-in-Nop c = none_told i.Nop m.Nop c.ranges.x c.ranges.y c.in-Nop.is refl

pub returns-in-Sleep : goal.returns-in-Sleep
returns-in-Sleep c = none_told i.Sleep m.Sleep c.ranges.x c.ranges.y c.in-Sleep.is refl

pub returns-in-Wdr : goal.returns-in-Wdr
returns-in-Wdr c = none_told i.Wdr m.Wdr c.ranges.x c.ranges.y c.in-Wdr.is refl

pub returns-in-Lsl : goal.returns-in-Lsl
returns-in-Lsl c = twice_told i.Add (field 5) m.Lsl c.ranges.x c.ranges.y c.in-Lsl.is c.field-in-Lsl.ensures c.field-in-Lsl-2.ensures refl

pub returns-in-Rol : goal.returns-in-Rol
returns-in-Rol c = twice_told i.Adc (field 5) m.Rol c.ranges.x c.ranges.y c.in-Rol.is c.field-in-Rol.ensures c.field-in-Rol-2.ensures refl

pub returns-in-Tst : goal.returns-in-Tst
returns-in-Tst c = twice_told i.And (field 5) m.Tst c.ranges.x c.ranges.y c.in-Tst.is c.field-in-Tst.ensures c.field-in-Tst-2.ensures refl

pub returns-in-Clr : goal.returns-in-Clr
returns-in-Clr c = twice_told i.Eor (field 5) m.Clr c.ranges.x c.ranges.y c.in-Clr.is c.field-in-Clr.ensures c.field-in-Clr-2.ensures refl
