use Rattle.std.proofs.Common.{refl}
use Rattle.avr_table.proofs.RowLemmas.{facts_at}
use Rattle.avr_table.proofs.facts.row_facts.Goals as goal

pub returns-in-Add : goal.returns-in-Add
returns-in-Add c = facts_at c.in-Add.is refl

pub returns-in-Adc : goal.returns-in-Adc
returns-in-Adc c = facts_at c.in-Adc.is refl

pub returns-in-Adiw : goal.returns-in-Adiw
returns-in-Adiw c = facts_at c.in-Adiw.is refl

pub returns-in-Sub : goal.returns-in-Sub
returns-in-Sub c = facts_at c.in-Sub.is refl

pub returns-in-Subi : goal.returns-in-Subi
returns-in-Subi c = facts_at c.in-Subi.is refl

pub returns-in-Sbc : goal.returns-in-Sbc
returns-in-Sbc c = facts_at c.in-Sbc.is refl

pub returns-in-Sbci : goal.returns-in-Sbci
returns-in-Sbci c = facts_at c.in-Sbci.is refl

pub returns-in-Sbiw : goal.returns-in-Sbiw
returns-in-Sbiw c = facts_at c.in-Sbiw.is refl

pub returns-in-And : goal.returns-in-And
returns-in-And c = facts_at c.in-And.is refl

pub returns-in-Andi : goal.returns-in-Andi
returns-in-Andi c = facts_at c.in-Andi.is refl

pub returns-in-Or : goal.returns-in-Or
returns-in-Or c = facts_at c.in-Or.is refl

pub returns-in-Ori : goal.returns-in-Ori
returns-in-Ori c = facts_at c.in-Ori.is refl

pub returns-in-Eor : goal.returns-in-Eor
returns-in-Eor c = facts_at c.in-Eor.is refl

pub returns-in-Com : goal.returns-in-Com
returns-in-Com c = facts_at c.in-Com.is refl

pub returns-in-Neg : goal.returns-in-Neg
returns-in-Neg c = facts_at c.in-Neg.is refl

pub returns-in-Inc : goal.returns-in-Inc
returns-in-Inc c = facts_at c.in-Inc.is refl

pub returns-in-Dec : goal.returns-in-Dec
returns-in-Dec c = facts_at c.in-Dec.is refl

pub returns-in-Mul : goal.returns-in-Mul
returns-in-Mul c = facts_at c.in-Mul.is refl

pub returns-in-Muls : goal.returns-in-Muls
returns-in-Muls c = facts_at c.in-Muls.is refl

pub returns-in-Mulsu : goal.returns-in-Mulsu
returns-in-Mulsu c = facts_at c.in-Mulsu.is refl

pub returns-in-Fmul : goal.returns-in-Fmul
returns-in-Fmul c = facts_at c.in-Fmul.is refl

pub returns-in-Fmuls : goal.returns-in-Fmuls
returns-in-Fmuls c = facts_at c.in-Fmuls.is refl

pub returns-in-Fmulsu : goal.returns-in-Fmulsu
returns-in-Fmulsu c = facts_at c.in-Fmulsu.is refl

pub returns-in-Rjmp : goal.returns-in-Rjmp
returns-in-Rjmp c = facts_at c.in-Rjmp.is refl

pub returns-in-Ijmp : goal.returns-in-Ijmp
returns-in-Ijmp c = facts_at c.in-Ijmp.is refl

pub returns-in-Jmp : goal.returns-in-Jmp
returns-in-Jmp c = facts_at c.in-Jmp.is refl

pub returns-in-Rcall : goal.returns-in-Rcall
returns-in-Rcall c = facts_at c.in-Rcall.is refl

pub returns-in-Icall : goal.returns-in-Icall
returns-in-Icall c = facts_at c.in-Icall.is refl

pub returns-in-Call : goal.returns-in-Call
returns-in-Call c = facts_at c.in-Call.is refl

pub returns-in-Ret : goal.returns-in-Ret
returns-in-Ret c = facts_at c.in-Ret.is refl

pub returns-in-Reti : goal.returns-in-Reti
returns-in-Reti c = facts_at c.in-Reti.is refl

pub returns-in-Cpse : goal.returns-in-Cpse
returns-in-Cpse c = facts_at c.in-Cpse.is refl

pub returns-in-Cp : goal.returns-in-Cp
returns-in-Cp c = facts_at c.in-Cp.is refl

pub returns-in-Cpc : goal.returns-in-Cpc
returns-in-Cpc c = facts_at c.in-Cpc.is refl

pub returns-in-Cpi : goal.returns-in-Cpi
returns-in-Cpi c = facts_at c.in-Cpi.is refl

pub returns-in-Sbrc : goal.returns-in-Sbrc
returns-in-Sbrc c = facts_at c.in-Sbrc.is refl

pub returns-in-Sbrs : goal.returns-in-Sbrs
returns-in-Sbrs c = facts_at c.in-Sbrs.is refl

pub returns-in-Sbic : goal.returns-in-Sbic
returns-in-Sbic c = facts_at c.in-Sbic.is refl

pub returns-in-Sbis : goal.returns-in-Sbis
returns-in-Sbis c = facts_at c.in-Sbis.is refl

pub returns-in-Brbs : goal.returns-in-Brbs
returns-in-Brbs c = facts_at c.in-Brbs.is refl

pub returns-in-Brbc : goal.returns-in-Brbc
returns-in-Brbc c = facts_at c.in-Brbc.is refl

pub returns-in-Mov : goal.returns-in-Mov
returns-in-Mov c = facts_at c.in-Mov.is refl

pub returns-in-Movw : goal.returns-in-Movw
returns-in-Movw c = facts_at c.in-Movw.is refl

pub returns-in-Ldi : goal.returns-in-Ldi
returns-in-Ldi c = facts_at c.in-Ldi.is refl

pub returns-in-LdX : goal.returns-in-LdX
returns-in-LdX c = facts_at c.in-LdX.is refl

pub returns-in-LdXInc : goal.returns-in-LdXInc
returns-in-LdXInc c = facts_at c.in-LdXInc.is refl

pub returns-in-LdXDec : goal.returns-in-LdXDec
returns-in-LdXDec c = facts_at c.in-LdXDec.is refl

pub returns-in-LdYInc : goal.returns-in-LdYInc
returns-in-LdYInc c = facts_at c.in-LdYInc.is refl

pub returns-in-LdYDec : goal.returns-in-LdYDec
returns-in-LdYDec c = facts_at c.in-LdYDec.is refl

pub returns-in-LdZInc : goal.returns-in-LdZInc
returns-in-LdZInc c = facts_at c.in-LdZInc.is refl

pub returns-in-LdZDec : goal.returns-in-LdZDec
returns-in-LdZDec c = facts_at c.in-LdZDec.is refl

pub returns-in-Ldd : goal.returns-in-Ldd
returns-in-Ldd c = facts_at c.in-Ldd.is refl

pub returns-in-Lds : goal.returns-in-Lds
returns-in-Lds c = facts_at c.in-Lds.is refl

pub returns-in-StX : goal.returns-in-StX
returns-in-StX c = facts_at c.in-StX.is refl

pub returns-in-StXInc : goal.returns-in-StXInc
returns-in-StXInc c = facts_at c.in-StXInc.is refl

pub returns-in-StXDec : goal.returns-in-StXDec
returns-in-StXDec c = facts_at c.in-StXDec.is refl

pub returns-in-StYInc : goal.returns-in-StYInc
returns-in-StYInc c = facts_at c.in-StYInc.is refl

pub returns-in-StYDec : goal.returns-in-StYDec
returns-in-StYDec c = facts_at c.in-StYDec.is refl

pub returns-in-StZInc : goal.returns-in-StZInc
returns-in-StZInc c = facts_at c.in-StZInc.is refl

pub returns-in-StZDec : goal.returns-in-StZDec
returns-in-StZDec c = facts_at c.in-StZDec.is refl

pub returns-in-Std : goal.returns-in-Std
returns-in-Std c = facts_at c.in-Std.is refl

pub returns-in-Sts : goal.returns-in-Sts
returns-in-Sts c = facts_at c.in-Sts.is refl

pub returns-in-Lpm : goal.returns-in-Lpm
returns-in-Lpm c = facts_at c.in-Lpm.is refl

pub returns-in-LpmZ : goal.returns-in-LpmZ
returns-in-LpmZ c = facts_at c.in-LpmZ.is refl

pub returns-in-LpmZInc : goal.returns-in-LpmZInc
returns-in-LpmZInc c = facts_at c.in-LpmZInc.is refl

pub returns-in-Spm : goal.returns-in-Spm
returns-in-Spm c = facts_at c.in-Spm.is refl

pub returns-in-In : goal.returns-in-In
returns-in-In c = facts_at c.in-In.is refl

pub returns-in-Out : goal.returns-in-Out
returns-in-Out c = facts_at c.in-Out.is refl

pub returns-in-Push : goal.returns-in-Push
returns-in-Push c = facts_at c.in-Push.is refl

pub returns-in-Pop : goal.returns-in-Pop
returns-in-Pop c = facts_at c.in-Pop.is refl

pub returns-in-Lsr : goal.returns-in-Lsr
returns-in-Lsr c = facts_at c.in-Lsr.is refl

pub returns-in-Ror : goal.returns-in-Ror
returns-in-Ror c = facts_at c.in-Ror.is refl

pub returns-in-Asr : goal.returns-in-Asr
returns-in-Asr c = facts_at c.in-Asr.is refl

pub returns-in-Swap : goal.returns-in-Swap
returns-in-Swap c = facts_at c.in-Swap.is refl

pub returns-in-Bset : goal.returns-in-Bset
returns-in-Bset c = facts_at c.in-Bset.is refl

pub returns-in-Bclr : goal.returns-in-Bclr
returns-in-Bclr c = facts_at c.in-Bclr.is refl

pub returns-in-Sbi : goal.returns-in-Sbi
returns-in-Sbi c = facts_at c.in-Sbi.is refl

pub returns-in-Cbi : goal.returns-in-Cbi
returns-in-Cbi c = facts_at c.in-Cbi.is refl

pub returns-in-Bst : goal.returns-in-Bst
returns-in-Bst c = facts_at c.in-Bst.is refl

pub returns-in-Bld : goal.returns-in-Bld
returns-in-Bld c = facts_at c.in-Bld.is refl

pub returns-in-Break : goal.returns-in-Break
returns-in-Break c = facts_at c.in-Break.is refl

pub returns-in-Nop : goal.returns-in-Nop
returns-in-Nop c = facts_at c.in-Nop.is refl

pub returns-in-Sleep : goal.returns-in-Sleep
returns-in-Sleep c = facts_at c.in-Sleep.is refl

pub returns-in-Wdr : goal.returns-in-Wdr
returns-in-Wdr c = facts_at c.in-Wdr.is refl
