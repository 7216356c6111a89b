use Rattle.std.proofs.Common.{◌≡◌, refl, sym, ap, subst, ◌∙◌, arith}
use Rattle.avr_table.specs.Pattern.{spelled}
use Rattle.avr_table.specs.Rows.{pattern_of, words_of, ReadsAt}
use Rattle.avr_table.specs.declared.Instr.TheVariants.{Ijmp, Icall, Ret}
use Rattle.avr_table.specs.declared.Instr.TheVariants.{Reti}
use Rattle.avr_table.specs.declared.Instr.TheVariants.{Lpm, Spm}
use Rattle.avr_table.specs.declared.Instr.TheVariants.{Break, Nop, Sleep, Wdr}
use Rattle.avr_table.proofs.PatternLemmas.{stands_from_mask}
use Rattle.avr_decode.specs.Gathered.{gathered, ones_below}
use Rattle.avr_decode.proofs.ReadWords.{letter, reads_at}
use Rattle.avr_decode.proofs.ScatteredLemmas.{gathered-masked}
use Rattle.avr_decode.proofs.encoder.both_words.Goals as goal

pub returns-in-Add-clause-reads : goal.returns-in-Add-clause-reads
unfolding spelled gathered ones_below
returns-in-Add-clause-reads c = subst (ReadsAt c.scatter_two.result) (sym c.in-Add.is)
    (reads_at (stands_from_mask _ _ (c.scatter_two.ensures.others 4227858432 refl refl))
    (letter c.scatter_two.ensures.x_own (letter c.scatter_two.ensures.y_own tt)))

pub returns-in-Adc-clause-reads : goal.returns-in-Adc-clause-reads
unfolding spelled gathered ones_below
returns-in-Adc-clause-reads c = subst (ReadsAt c.scatter_two-in-Adc.result) (sym c.in-Adc.is)
    (reads_at (stands_from_mask _ _ (c.scatter_two-in-Adc.ensures.others 4227858432 refl refl))
    (letter c.scatter_two-in-Adc.ensures.x_own (letter c.scatter_two-in-Adc.ensures.y_own tt)))

pub returns-in-Adiw-clause-reads : goal.returns-in-Adiw-clause-reads
unfolding spelled gathered ones_below
returns-in-Adiw-clause-reads c = subst (ReadsAt c.scatter_two-in-Adiw.result) (sym c.in-Adiw.is)
    (reads_at (stands_from_mask _ _ (c.scatter_two-in-Adiw.ensures.others 4278190080 refl refl))
    (letter c.scatter_two-in-Adiw.ensures.x_own (letter c.scatter_two-in-Adiw.ensures.y_own tt)))

pub returns-in-Sub-clause-reads : goal.returns-in-Sub-clause-reads
unfolding spelled gathered ones_below
returns-in-Sub-clause-reads c = subst (ReadsAt c.scatter_two-in-Sub.result) (sym c.in-Sub.is)
    (reads_at (stands_from_mask _ _ (c.scatter_two-in-Sub.ensures.others 4227858432 refl refl))
    (letter c.scatter_two-in-Sub.ensures.x_own (letter c.scatter_two-in-Sub.ensures.y_own tt)))

pub returns-in-Subi-clause-reads : goal.returns-in-Subi-clause-reads
unfolding spelled gathered ones_below
returns-in-Subi-clause-reads c = subst (ReadsAt c.scatter_two-in-Subi.result) (sym c.in-Subi.is)
    (reads_at (stands_from_mask _ _ (c.scatter_two-in-Subi.ensures.others 4026531840 refl refl))
    (letter c.scatter_two-in-Subi.ensures.x_own (letter c.scatter_two-in-Subi.ensures.y_own tt)))

pub returns-in-Sbc-clause-reads : goal.returns-in-Sbc-clause-reads
unfolding spelled gathered ones_below
returns-in-Sbc-clause-reads c = subst (ReadsAt c.scatter_two-in-Sbc.result) (sym c.in-Sbc.is)
    (reads_at (stands_from_mask _ _ (c.scatter_two-in-Sbc.ensures.others 4227858432 refl refl))
    (letter c.scatter_two-in-Sbc.ensures.x_own (letter c.scatter_two-in-Sbc.ensures.y_own tt)))

pub returns-in-Sbci-clause-reads : goal.returns-in-Sbci-clause-reads
unfolding spelled gathered ones_below
returns-in-Sbci-clause-reads c = subst (ReadsAt c.scatter_two-in-Sbci.result) (sym c.in-Sbci.is)
    (reads_at (stands_from_mask _ _ (c.scatter_two-in-Sbci.ensures.others 4026531840 refl refl))
    (letter c.scatter_two-in-Sbci.ensures.x_own (letter c.scatter_two-in-Sbci.ensures.y_own tt)))

pub returns-in-Sbiw-clause-reads : goal.returns-in-Sbiw-clause-reads
unfolding spelled gathered ones_below
returns-in-Sbiw-clause-reads c = subst (ReadsAt c.scatter_two-in-Sbiw.result) (sym c.in-Sbiw.is)
    (reads_at (stands_from_mask _ _ (c.scatter_two-in-Sbiw.ensures.others 4278190080 refl refl))
    (letter c.scatter_two-in-Sbiw.ensures.x_own (letter c.scatter_two-in-Sbiw.ensures.y_own tt)))

pub returns-in-And-clause-reads : goal.returns-in-And-clause-reads
unfolding spelled gathered ones_below
returns-in-And-clause-reads c = subst (ReadsAt c.scatter_two-in-And.result) (sym c.in-And.is)
    (reads_at (stands_from_mask _ _ (c.scatter_two-in-And.ensures.others 4227858432 refl refl))
    (letter c.scatter_two-in-And.ensures.x_own (letter c.scatter_two-in-And.ensures.y_own tt)))

pub returns-in-Andi-clause-reads : goal.returns-in-Andi-clause-reads
unfolding spelled gathered ones_below
returns-in-Andi-clause-reads c = subst (ReadsAt c.scatter_two-in-Andi.result) (sym c.in-Andi.is)
    (reads_at (stands_from_mask _ _ (c.scatter_two-in-Andi.ensures.others 4026531840 refl refl))
    (letter c.scatter_two-in-Andi.ensures.x_own (letter c.scatter_two-in-Andi.ensures.y_own tt)))

pub returns-in-Or-clause-reads : goal.returns-in-Or-clause-reads
unfolding spelled gathered ones_below
returns-in-Or-clause-reads c = subst (ReadsAt c.scatter_two-in-Or.result) (sym c.in-Or.is)
    (reads_at (stands_from_mask _ _ (c.scatter_two-in-Or.ensures.others 4227858432 refl refl))
    (letter c.scatter_two-in-Or.ensures.x_own (letter c.scatter_two-in-Or.ensures.y_own tt)))

pub returns-in-Ori-clause-reads : goal.returns-in-Ori-clause-reads
unfolding spelled gathered ones_below
returns-in-Ori-clause-reads c = subst (ReadsAt c.scatter_two-in-Ori.result) (sym c.in-Ori.is)
    (reads_at (stands_from_mask _ _ (c.scatter_two-in-Ori.ensures.others 4026531840 refl refl))
    (letter c.scatter_two-in-Ori.ensures.x_own (letter c.scatter_two-in-Ori.ensures.y_own tt)))

pub returns-in-Eor-clause-reads : goal.returns-in-Eor-clause-reads
unfolding spelled gathered ones_below
returns-in-Eor-clause-reads c = subst (ReadsAt c.scatter_two-in-Eor.result) (sym c.in-Eor.is)
    (reads_at (stands_from_mask _ _ (c.scatter_two-in-Eor.ensures.others 4227858432 refl refl))
    (letter c.scatter_two-in-Eor.ensures.x_own (letter c.scatter_two-in-Eor.ensures.y_own tt)))

pub returns-in-Com-clause-reads : goal.returns-in-Com-clause-reads
unfolding spelled gathered ones_below
returns-in-Com-clause-reads c = subst (ReadsAt c.scatter.result) (sym c.in-Com.is)
    (reads_at (stands_from_mask _ _ (c.scatter.ensures.others 4262395904 refl)) (letter c.scatter.ensures.own tt))

pub returns-in-Neg-clause-reads : goal.returns-in-Neg-clause-reads
unfolding spelled gathered ones_below
returns-in-Neg-clause-reads c = subst (ReadsAt c.scatter-in-Neg.result) (sym c.in-Neg.is)
    (reads_at (stands_from_mask _ _ (c.scatter-in-Neg.ensures.others 4262395904 refl)) (letter c.scatter-in-Neg.ensures.own tt))

pub returns-in-Inc-clause-reads : goal.returns-in-Inc-clause-reads
unfolding spelled gathered ones_below
returns-in-Inc-clause-reads c = subst (ReadsAt c.scatter-in-Inc.result) (sym c.in-Inc.is)
    (reads_at (stands_from_mask _ _ (c.scatter-in-Inc.ensures.others 4262395904 refl)) (letter c.scatter-in-Inc.ensures.own tt))

pub returns-in-Dec-clause-reads : goal.returns-in-Dec-clause-reads
unfolding spelled gathered ones_below
returns-in-Dec-clause-reads c = subst (ReadsAt c.scatter-in-Dec.result) (sym c.in-Dec.is)
    (reads_at (stands_from_mask _ _ (c.scatter-in-Dec.ensures.others 4262395904 refl)) (letter c.scatter-in-Dec.ensures.own tt))

pub returns-in-Mul-clause-reads : goal.returns-in-Mul-clause-reads
unfolding spelled gathered ones_below
returns-in-Mul-clause-reads c = subst (ReadsAt c.scatter_two-in-Mul.result) (sym c.in-Mul.is)
    (reads_at (stands_from_mask _ _ (c.scatter_two-in-Mul.ensures.others 4227858432 refl refl))
    (letter c.scatter_two-in-Mul.ensures.x_own (letter c.scatter_two-in-Mul.ensures.y_own tt)))

pub returns-in-Muls-clause-reads : goal.returns-in-Muls-clause-reads
unfolding spelled gathered ones_below
returns-in-Muls-clause-reads c = subst (ReadsAt c.scatter_two-in-Muls.result) (sym c.in-Muls.is)
    (reads_at (stands_from_mask _ _ (c.scatter_two-in-Muls.ensures.others 4278190080 refl refl))
    (letter c.scatter_two-in-Muls.ensures.x_own (letter c.scatter_two-in-Muls.ensures.y_own tt)))

pub returns-in-Mulsu-clause-reads : goal.returns-in-Mulsu-clause-reads
unfolding spelled gathered ones_below
returns-in-Mulsu-clause-reads c = subst (ReadsAt c.scatter_two-in-Mulsu.result) (sym c.in-Mulsu.is)
    (reads_at (stands_from_mask _ _ (c.scatter_two-in-Mulsu.ensures.others 4287102976 refl refl))
    (letter c.scatter_two-in-Mulsu.ensures.x_own (letter c.scatter_two-in-Mulsu.ensures.y_own tt)))

pub returns-in-Fmul-clause-reads : goal.returns-in-Fmul-clause-reads
unfolding spelled gathered ones_below
returns-in-Fmul-clause-reads c = subst (ReadsAt c.scatter_two-in-Fmul.result) (sym c.in-Fmul.is)
    (reads_at (stands_from_mask _ _ (c.scatter_two-in-Fmul.ensures.others 4287102976 refl refl))
    (letter c.scatter_two-in-Fmul.ensures.x_own (letter c.scatter_two-in-Fmul.ensures.y_own tt)))

pub returns-in-Fmuls-clause-reads : goal.returns-in-Fmuls-clause-reads
unfolding spelled gathered ones_below
returns-in-Fmuls-clause-reads c = subst (ReadsAt c.scatter_two-in-Fmuls.result) (sym c.in-Fmuls.is)
    (reads_at (stands_from_mask _ _ (c.scatter_two-in-Fmuls.ensures.others 4287102976 refl refl))
    (letter c.scatter_two-in-Fmuls.ensures.x_own (letter c.scatter_two-in-Fmuls.ensures.y_own tt)))

pub returns-in-Fmulsu-clause-reads : goal.returns-in-Fmulsu-clause-reads
unfolding spelled gathered ones_below
returns-in-Fmulsu-clause-reads c = subst (ReadsAt c.scatter_two-in-Fmulsu.result) (sym c.in-Fmulsu.is)
    (reads_at (stands_from_mask _ _ (c.scatter_two-in-Fmulsu.ensures.others 4287102976 refl refl))
    (letter c.scatter_two-in-Fmulsu.ensures.x_own (letter c.scatter_two-in-Fmulsu.ensures.y_own tt)))

pub returns-in-Rjmp-clause-reads : goal.returns-in-Rjmp-clause-reads
unfolding spelled gathered ones_below
returns-in-Rjmp-clause-reads c = subst (ReadsAt c.scatter-in-Rjmp.result) (sym c.in-Rjmp.is)
    (reads_at (stands_from_mask _ _ (c.scatter-in-Rjmp.ensures.others 4026531840 refl)) (letter c.scatter-in-Rjmp.ensures.own tt))

pub returns-in-Ijmp-clause-reads : goal.returns-in-Ijmp-clause-reads
returns-in-Ijmp-clause-reads c = subst (ReadsAt 2483617792) (sym c.in-Ijmp.is)
    (record { fixed = stands_from_mask (pattern_of Ijmp) 2483617792 (refl); letters = tt })

pub returns-in-Jmp-clause-reads : goal.returns-in-Jmp-clause-reads
unfolding spelled gathered ones_below
returns-in-Jmp-clause-reads c = subst (ReadsAt c.scatter-in-Jmp.result) (sym c.in-Jmp.is)
    (reads_at (stands_from_mask _ _ (c.scatter-in-Jmp.ensures.others 4294934528 refl)) (letter c.scatter-in-Jmp.ensures.own tt))

pub returns-in-Jmp-clause-second : goal.returns-in-Jmp-clause-second
returns-in-Jmp-clause-second c = λ h. let e : words_of c.args.i.now ≡ 2 = ap words_of c.in-Jmp.is in absurd (omega (arith, h, e))

pub returns-in-Rcall-clause-reads : goal.returns-in-Rcall-clause-reads
unfolding spelled gathered ones_below
returns-in-Rcall-clause-reads c = subst (ReadsAt c.scatter-in-Rcall.result) (sym c.in-Rcall.is)
    (reads_at (stands_from_mask _ _ (c.scatter-in-Rcall.ensures.others 4026531840 refl)) (letter c.scatter-in-Rcall.ensures.own tt))

pub returns-in-Icall-clause-reads : goal.returns-in-Icall-clause-reads
returns-in-Icall-clause-reads c = subst (ReadsAt 2500395008) (sym c.in-Icall.is)
    (record { fixed = stands_from_mask (pattern_of Icall) 2500395008 (refl); letters = tt })

pub returns-in-Call-clause-reads : goal.returns-in-Call-clause-reads
unfolding spelled gathered ones_below
returns-in-Call-clause-reads c = subst (ReadsAt c.scatter-in-Call.result) (sym c.in-Call.is)
    (reads_at (stands_from_mask _ _ (c.scatter-in-Call.ensures.others 4294934528 refl)) (letter c.scatter-in-Call.ensures.own tt))

pub returns-in-Call-clause-second : goal.returns-in-Call-clause-second
returns-in-Call-clause-second c = λ h. let e : words_of c.args.i.now ≡ 2 = ap words_of c.in-Call.is in absurd (omega (arith, h, e))

pub returns-in-Ret-clause-reads : goal.returns-in-Ret-clause-reads
returns-in-Ret-clause-reads c = subst (ReadsAt 2500329472) (sym c.in-Ret.is)
    (record { fixed = stands_from_mask (pattern_of Ret) 2500329472 (refl); letters = tt })

pub returns-in-Reti-clause-reads : goal.returns-in-Reti-clause-reads
returns-in-Reti-clause-reads c = subst (ReadsAt 2501378048) (sym c.in-Reti.is)
    (record { fixed = stands_from_mask (pattern_of Reti) 2501378048 (refl); letters = tt })

pub returns-in-Cpse-clause-reads : goal.returns-in-Cpse-clause-reads
unfolding spelled gathered ones_below
returns-in-Cpse-clause-reads c = subst (ReadsAt c.scatter_two-in-Cpse.result) (sym c.in-Cpse.is)
    (reads_at (stands_from_mask _ _ (c.scatter_two-in-Cpse.ensures.others 4227858432 refl refl))
    (letter c.scatter_two-in-Cpse.ensures.x_own (letter c.scatter_two-in-Cpse.ensures.y_own tt)))

pub returns-in-Cp-clause-reads : goal.returns-in-Cp-clause-reads
unfolding spelled gathered ones_below
returns-in-Cp-clause-reads c = subst (ReadsAt c.scatter_two-in-Cp.result) (sym c.in-Cp.is)
    (reads_at (stands_from_mask _ _ (c.scatter_two-in-Cp.ensures.others 4227858432 refl refl))
    (letter c.scatter_two-in-Cp.ensures.x_own (letter c.scatter_two-in-Cp.ensures.y_own tt)))

pub returns-in-Cpc-clause-reads : goal.returns-in-Cpc-clause-reads
unfolding spelled gathered ones_below
returns-in-Cpc-clause-reads c = subst (ReadsAt c.scatter_two-in-Cpc.result) (sym c.in-Cpc.is)
    (reads_at (stands_from_mask _ _ (c.scatter_two-in-Cpc.ensures.others 4227858432 refl refl))
    (letter c.scatter_two-in-Cpc.ensures.x_own (letter c.scatter_two-in-Cpc.ensures.y_own tt)))

pub returns-in-Cpi-clause-reads : goal.returns-in-Cpi-clause-reads
unfolding spelled gathered ones_below
returns-in-Cpi-clause-reads c = subst (ReadsAt c.scatter_two-in-Cpi.result) (sym c.in-Cpi.is)
    (reads_at (stands_from_mask _ _ (c.scatter_two-in-Cpi.ensures.others 4026531840 refl refl))
    (letter c.scatter_two-in-Cpi.ensures.x_own (letter c.scatter_two-in-Cpi.ensures.y_own tt)))

pub returns-in-Sbrc-clause-reads : goal.returns-in-Sbrc-clause-reads
unfolding spelled gathered ones_below
returns-in-Sbrc-clause-reads c = subst (ReadsAt c.scatter_two-in-Sbrc.result) (sym c.in-Sbrc.is)
    (reads_at (stands_from_mask _ _ (c.scatter_two-in-Sbrc.ensures.others 4261937152 refl refl))
    (letter c.scatter_two-in-Sbrc.ensures.x_own (letter c.scatter_two-in-Sbrc.ensures.y_own tt)))

pub returns-in-Sbrs-clause-reads : goal.returns-in-Sbrs-clause-reads
unfolding spelled gathered ones_below
returns-in-Sbrs-clause-reads c = subst (ReadsAt c.scatter_two-in-Sbrs.result) (sym c.in-Sbrs.is)
    (reads_at (stands_from_mask _ _ (c.scatter_two-in-Sbrs.ensures.others 4261937152 refl refl))
    (letter c.scatter_two-in-Sbrs.ensures.x_own (letter c.scatter_two-in-Sbrs.ensures.y_own tt)))

pub returns-in-Sbic-clause-reads : goal.returns-in-Sbic-clause-reads
unfolding spelled gathered ones_below
returns-in-Sbic-clause-reads c = subst (ReadsAt c.scatter_two-in-Sbic.result) (sym c.in-Sbic.is)
    (reads_at (stands_from_mask _ _ (c.scatter_two-in-Sbic.ensures.others 4278190080 refl refl))
    (letter c.scatter_two-in-Sbic.ensures.x_own (letter c.scatter_two-in-Sbic.ensures.y_own tt)))

pub returns-in-Sbis-clause-reads : goal.returns-in-Sbis-clause-reads
unfolding spelled gathered ones_below
returns-in-Sbis-clause-reads c = subst (ReadsAt c.scatter_two-in-Sbis.result) (sym c.in-Sbis.is)
    (reads_at (stands_from_mask _ _ (c.scatter_two-in-Sbis.ensures.others 4278190080 refl refl))
    (letter c.scatter_two-in-Sbis.ensures.x_own (letter c.scatter_two-in-Sbis.ensures.y_own tt)))

pub returns-in-Brbs-clause-reads : goal.returns-in-Brbs-clause-reads
unfolding spelled gathered ones_below
returns-in-Brbs-clause-reads c = subst (ReadsAt c.scatter_two-in-Brbs.result) (sym c.in-Brbs.is)
    (reads_at (stands_from_mask _ _ (c.scatter_two-in-Brbs.ensures.others 4227858432 refl refl))
    (letter c.scatter_two-in-Brbs.ensures.x_own (letter c.scatter_two-in-Brbs.ensures.y_own tt)))

pub returns-in-Brbc-clause-reads : goal.returns-in-Brbc-clause-reads
unfolding spelled gathered ones_below
returns-in-Brbc-clause-reads c = subst (ReadsAt c.scatter_two-in-Brbc.result) (sym c.in-Brbc.is)
    (reads_at (stands_from_mask _ _ (c.scatter_two-in-Brbc.ensures.others 4227858432 refl refl))
    (letter c.scatter_two-in-Brbc.ensures.x_own (letter c.scatter_two-in-Brbc.ensures.y_own tt)))

pub returns-in-Mov-clause-reads : goal.returns-in-Mov-clause-reads
unfolding spelled gathered ones_below
returns-in-Mov-clause-reads c = subst (ReadsAt c.scatter_two-in-Mov.result) (sym c.in-Mov.is)
    (reads_at (stands_from_mask _ _ (c.scatter_two-in-Mov.ensures.others 4227858432 refl refl))
    (letter c.scatter_two-in-Mov.ensures.x_own (letter c.scatter_two-in-Mov.ensures.y_own tt)))

pub returns-in-Movw-clause-reads : goal.returns-in-Movw-clause-reads
unfolding spelled gathered ones_below
returns-in-Movw-clause-reads c = subst (ReadsAt c.scatter_two-in-Movw.result) (sym c.in-Movw.is)
    (reads_at (stands_from_mask _ _ (c.scatter_two-in-Movw.ensures.others 4278190080 refl refl))
    (letter c.scatter_two-in-Movw.ensures.x_own (letter c.scatter_two-in-Movw.ensures.y_own tt)))

pub returns-in-Ldi-clause-reads : goal.returns-in-Ldi-clause-reads
unfolding spelled gathered ones_below
returns-in-Ldi-clause-reads c = subst (ReadsAt c.scatter_two-in-Ldi.result) (sym c.in-Ldi.is)
    (reads_at (stands_from_mask _ _ (c.scatter_two-in-Ldi.ensures.others 4026531840 refl refl))
    (letter c.scatter_two-in-Ldi.ensures.x_own (letter c.scatter_two-in-Ldi.ensures.y_own tt)))

pub returns-in-LdX-clause-reads : goal.returns-in-LdX-clause-reads
unfolding spelled gathered ones_below
returns-in-LdX-clause-reads c = subst (ReadsAt c.scatter-in-LdX.result) (sym c.in-LdX.is)
    (reads_at (stands_from_mask _ _ (c.scatter-in-LdX.ensures.others 4262395904 refl)) (letter c.scatter-in-LdX.ensures.own tt))

pub returns-in-LdXInc-clause-reads : goal.returns-in-LdXInc-clause-reads
unfolding spelled gathered ones_below
returns-in-LdXInc-clause-reads c = subst (ReadsAt c.scatter-in-LdXInc.result) (sym c.in-LdXInc.is)
    (reads_at (stands_from_mask _ _ (c.scatter-in-LdXInc.ensures.others 4262395904 refl)) (letter c.scatter-in-LdXInc.ensures.own tt))

pub returns-in-LdXDec-clause-reads : goal.returns-in-LdXDec-clause-reads
unfolding spelled gathered ones_below
returns-in-LdXDec-clause-reads c = subst (ReadsAt c.scatter-in-LdXDec.result) (sym c.in-LdXDec.is)
    (reads_at (stands_from_mask _ _ (c.scatter-in-LdXDec.ensures.others 4262395904 refl)) (letter c.scatter-in-LdXDec.ensures.own tt))

pub returns-in-LdYInc-clause-reads : goal.returns-in-LdYInc-clause-reads
unfolding spelled gathered ones_below
returns-in-LdYInc-clause-reads c = subst (ReadsAt c.scatter-in-LdYInc.result) (sym c.in-LdYInc.is)
    (reads_at (stands_from_mask _ _ (c.scatter-in-LdYInc.ensures.others 4262395904 refl)) (letter c.scatter-in-LdYInc.ensures.own tt))

pub returns-in-LdYDec-clause-reads : goal.returns-in-LdYDec-clause-reads
unfolding spelled gathered ones_below
returns-in-LdYDec-clause-reads c = subst (ReadsAt c.scatter-in-LdYDec.result) (sym c.in-LdYDec.is)
    (reads_at (stands_from_mask _ _ (c.scatter-in-LdYDec.ensures.others 4262395904 refl)) (letter c.scatter-in-LdYDec.ensures.own tt))

pub returns-in-LdZInc-clause-reads : goal.returns-in-LdZInc-clause-reads
unfolding spelled gathered ones_below
returns-in-LdZInc-clause-reads c = subst (ReadsAt c.scatter-in-LdZInc.result) (sym c.in-LdZInc.is)
    (reads_at (stands_from_mask _ _ (c.scatter-in-LdZInc.ensures.others 4262395904 refl)) (letter c.scatter-in-LdZInc.ensures.own tt))

pub returns-in-LdZDec-clause-reads : goal.returns-in-LdZDec-clause-reads
unfolding spelled gathered ones_below
returns-in-LdZDec-clause-reads c = subst (ReadsAt c.scatter-in-LdZDec.result) (sym c.in-LdZDec.is)
    (reads_at (stands_from_mask _ _ (c.scatter-in-LdZDec.ensures.others 4262395904 refl)) (letter c.scatter-in-LdZDec.ensures.own tt))

pub returns-in-Ldd-clause-reads : goal.returns-in-Ldd-clause-reads
unfolding spelled gathered ones_below
returns-in-Ldd-clause-reads c = subst (ReadsAt c.scatter-in-Ldd.result) (sym c.in-Ldd.is)
    (reads_at (stands_from_mask _ _ (c.scatter-in-Ldd.ensures.others 3523215360 refl ∙ c.scatter_two-in-Ldd.ensures.others 3523215360 refl refl))
    (letter (gathered-masked 32 32505856 _ _ (c.scatter-in-Ldd.ensures.others 32505856 refl) ∙ c.scatter_two-in-Ldd.ensures.x_own)
    (letter (gathered-masked 32 524288 _ _ (c.scatter-in-Ldd.ensures.others 524288 refl) ∙ c.scatter_two-in-Ldd.ensures.y_own) (letter c.scatter-in-Ldd.ensures.own tt))))

pub returns-in-Lds-clause-reads : goal.returns-in-Lds-clause-reads
unfolding spelled gathered ones_below
returns-in-Lds-clause-reads c = subst (ReadsAt c.scatter_two-in-Lds.result) (sym c.in-Lds.is)
    (reads_at (stands_from_mask _ _ (c.scatter_two-in-Lds.ensures.others 4262395904 refl refl))
    (letter c.scatter_two-in-Lds.ensures.x_own (letter c.scatter_two-in-Lds.ensures.y_own tt)))

pub returns-in-Lds-clause-second : goal.returns-in-Lds-clause-second
returns-in-Lds-clause-second c = λ h. let e : words_of c.args.i.now ≡ 2 = ap words_of c.in-Lds.is in absurd (omega (arith, h, e))

pub returns-in-StX-clause-reads : goal.returns-in-StX-clause-reads
unfolding spelled gathered ones_below
returns-in-StX-clause-reads c = subst (ReadsAt c.scatter-in-StX.result) (sym c.in-StX.is)
    (reads_at (stands_from_mask _ _ (c.scatter-in-StX.ensures.others 4262395904 refl)) (letter c.scatter-in-StX.ensures.own tt))

pub returns-in-StXInc-clause-reads : goal.returns-in-StXInc-clause-reads
unfolding spelled gathered ones_below
returns-in-StXInc-clause-reads c = subst (ReadsAt c.scatter-in-StXInc.result) (sym c.in-StXInc.is)
    (reads_at (stands_from_mask _ _ (c.scatter-in-StXInc.ensures.others 4262395904 refl)) (letter c.scatter-in-StXInc.ensures.own tt))

pub returns-in-StXDec-clause-reads : goal.returns-in-StXDec-clause-reads
unfolding spelled gathered ones_below
returns-in-StXDec-clause-reads c = subst (ReadsAt c.scatter-in-StXDec.result) (sym c.in-StXDec.is)
    (reads_at (stands_from_mask _ _ (c.scatter-in-StXDec.ensures.others 4262395904 refl)) (letter c.scatter-in-StXDec.ensures.own tt))

pub returns-in-StYInc-clause-reads : goal.returns-in-StYInc-clause-reads
unfolding spelled gathered ones_below
returns-in-StYInc-clause-reads c = subst (ReadsAt c.scatter-in-StYInc.result) (sym c.in-StYInc.is)
    (reads_at (stands_from_mask _ _ (c.scatter-in-StYInc.ensures.others 4262395904 refl)) (letter c.scatter-in-StYInc.ensures.own tt))

pub returns-in-StYDec-clause-reads : goal.returns-in-StYDec-clause-reads
unfolding spelled gathered ones_below
returns-in-StYDec-clause-reads c = subst (ReadsAt c.scatter-in-StYDec.result) (sym c.in-StYDec.is)
    (reads_at (stands_from_mask _ _ (c.scatter-in-StYDec.ensures.others 4262395904 refl)) (letter c.scatter-in-StYDec.ensures.own tt))

pub returns-in-StZInc-clause-reads : goal.returns-in-StZInc-clause-reads
unfolding spelled gathered ones_below
returns-in-StZInc-clause-reads c = subst (ReadsAt c.scatter-in-StZInc.result) (sym c.in-StZInc.is)
    (reads_at (stands_from_mask _ _ (c.scatter-in-StZInc.ensures.others 4262395904 refl)) (letter c.scatter-in-StZInc.ensures.own tt))

pub returns-in-StZDec-clause-reads : goal.returns-in-StZDec-clause-reads
unfolding spelled gathered ones_below
returns-in-StZDec-clause-reads c = subst (ReadsAt c.scatter-in-StZDec.result) (sym c.in-StZDec.is)
    (reads_at (stands_from_mask _ _ (c.scatter-in-StZDec.ensures.others 4262395904 refl)) (letter c.scatter-in-StZDec.ensures.own tt))

pub returns-in-Std-clause-reads : goal.returns-in-Std-clause-reads
unfolding spelled gathered ones_below
returns-in-Std-clause-reads c = subst (ReadsAt c.scatter-in-Std.result) (sym c.in-Std.is)
    (reads_at (stands_from_mask _ _ (c.scatter-in-Std.ensures.others 3523215360 refl ∙ c.scatter_two-in-Std.ensures.others 3523215360 refl refl))
    (letter (gathered-masked 32 524288 _ _ (c.scatter-in-Std.ensures.others 524288 refl) ∙ c.scatter_two-in-Std.ensures.x_own)
    (letter (gathered-masked 32 738656256 _ _ (c.scatter-in-Std.ensures.others 738656256 refl) ∙ c.scatter_two-in-Std.ensures.y_own) (letter c.scatter-in-Std.ensures.own tt))))

pub returns-in-Sts-clause-reads : goal.returns-in-Sts-clause-reads
unfolding spelled gathered ones_below
returns-in-Sts-clause-reads c = subst (ReadsAt c.scatter_two-in-Sts.result) (sym c.in-Sts.is)
    (reads_at (stands_from_mask _ _ (c.scatter_two-in-Sts.ensures.others 4262395904 refl refl))
    (letter c.scatter_two-in-Sts.ensures.x_own (letter c.scatter_two-in-Sts.ensures.y_own tt)))

pub returns-in-Sts-clause-second : goal.returns-in-Sts-clause-second
returns-in-Sts-clause-second c = λ h. let e : words_of c.args.i.now ≡ 2 = ap words_of c.in-Sts.is in absurd (omega (arith, h, e))

pub returns-in-Lpm-clause-reads : goal.returns-in-Lpm-clause-reads
returns-in-Lpm-clause-reads c = subst (ReadsAt 2512912384) (sym c.in-Lpm.is)
    (record { fixed = stands_from_mask (pattern_of Lpm) 2512912384 (refl); letters = tt })

pub returns-in-LpmZ-clause-reads : goal.returns-in-LpmZ-clause-reads
unfolding spelled gathered ones_below
returns-in-LpmZ-clause-reads c = subst (ReadsAt c.scatter-in-LpmZ.result) (sym c.in-LpmZ.is)
    (reads_at (stands_from_mask _ _ (c.scatter-in-LpmZ.ensures.others 4262395904 refl)) (letter c.scatter-in-LpmZ.ensures.own tt))

pub returns-in-LpmZInc-clause-reads : goal.returns-in-LpmZInc-clause-reads
unfolding spelled gathered ones_below
returns-in-LpmZInc-clause-reads c = subst (ReadsAt c.scatter-in-LpmZInc.result) (sym c.in-LpmZInc.is)
    (reads_at (stands_from_mask _ _ (c.scatter-in-LpmZInc.ensures.others 4262395904 refl)) (letter c.scatter-in-LpmZInc.ensures.own tt))

pub returns-in-Spm-clause-reads : goal.returns-in-Spm-clause-reads
returns-in-Spm-clause-reads c = subst (ReadsAt 2515009536) (sym c.in-Spm.is)
    (record { fixed = stands_from_mask (pattern_of Spm) 2515009536 (refl); letters = tt })

pub returns-in-In-clause-reads : goal.returns-in-In-clause-reads
unfolding spelled gathered ones_below
returns-in-In-clause-reads c = subst (ReadsAt c.scatter_two-in-In.result) (sym c.in-In.is)
    (reads_at (stands_from_mask _ _ (c.scatter_two-in-In.ensures.others 4160749568 refl refl))
    (letter c.scatter_two-in-In.ensures.x_own (letter c.scatter_two-in-In.ensures.y_own tt)))

pub returns-in-Out-clause-reads : goal.returns-in-Out-clause-reads
unfolding spelled gathered ones_below
returns-in-Out-clause-reads c = subst (ReadsAt c.scatter_two-in-Out.result) (sym c.in-Out.is)
    (reads_at (stands_from_mask _ _ (c.scatter_two-in-Out.ensures.others 4160749568 refl refl))
    (letter c.scatter_two-in-Out.ensures.x_own (letter c.scatter_two-in-Out.ensures.y_own tt)))

pub returns-in-Push-clause-reads : goal.returns-in-Push-clause-reads
unfolding spelled gathered ones_below
returns-in-Push-clause-reads c = subst (ReadsAt c.scatter-in-Push.result) (sym c.in-Push.is)
    (reads_at (stands_from_mask _ _ (c.scatter-in-Push.ensures.others 4262395904 refl)) (letter c.scatter-in-Push.ensures.own tt))

pub returns-in-Pop-clause-reads : goal.returns-in-Pop-clause-reads
unfolding spelled gathered ones_below
returns-in-Pop-clause-reads c = subst (ReadsAt c.scatter-in-Pop.result) (sym c.in-Pop.is)
    (reads_at (stands_from_mask _ _ (c.scatter-in-Pop.ensures.others 4262395904 refl)) (letter c.scatter-in-Pop.ensures.own tt))

pub returns-in-Lsr-clause-reads : goal.returns-in-Lsr-clause-reads
unfolding spelled gathered ones_below
returns-in-Lsr-clause-reads c = subst (ReadsAt c.scatter-in-Lsr.result) (sym c.in-Lsr.is)
    (reads_at (stands_from_mask _ _ (c.scatter-in-Lsr.ensures.others 4262395904 refl)) (letter c.scatter-in-Lsr.ensures.own tt))

pub returns-in-Ror-clause-reads : goal.returns-in-Ror-clause-reads
unfolding spelled gathered ones_below
returns-in-Ror-clause-reads c = subst (ReadsAt c.scatter-in-Ror.result) (sym c.in-Ror.is)
    (reads_at (stands_from_mask _ _ (c.scatter-in-Ror.ensures.others 4262395904 refl)) (letter c.scatter-in-Ror.ensures.own tt))

pub returns-in-Asr-clause-reads : goal.returns-in-Asr-clause-reads
unfolding spelled gathered ones_below
returns-in-Asr-clause-reads c = subst (ReadsAt c.scatter-in-Asr.result) (sym c.in-Asr.is)
    (reads_at (stands_from_mask _ _ (c.scatter-in-Asr.ensures.others 4262395904 refl)) (letter c.scatter-in-Asr.ensures.own tt))

pub returns-in-Swap-clause-reads : goal.returns-in-Swap-clause-reads
unfolding spelled gathered ones_below
returns-in-Swap-clause-reads c = subst (ReadsAt c.scatter-in-Swap.result) (sym c.in-Swap.is)
    (reads_at (stands_from_mask _ _ (c.scatter-in-Swap.ensures.others 4262395904 refl)) (letter c.scatter-in-Swap.ensures.own tt))

pub returns-in-Bset-clause-reads : goal.returns-in-Bset-clause-reads
unfolding spelled gathered ones_below
returns-in-Bset-clause-reads c = subst (ReadsAt c.scatter-in-Bset.result) (sym c.in-Bset.is)
    (reads_at (stands_from_mask _ _ (c.scatter-in-Bset.ensures.others 4287561728 refl)) (letter c.scatter-in-Bset.ensures.own tt))

pub returns-in-Bclr-clause-reads : goal.returns-in-Bclr-clause-reads
unfolding spelled gathered ones_below
returns-in-Bclr-clause-reads c = subst (ReadsAt c.scatter-in-Bclr.result) (sym c.in-Bclr.is)
    (reads_at (stands_from_mask _ _ (c.scatter-in-Bclr.ensures.others 4287561728 refl)) (letter c.scatter-in-Bclr.ensures.own tt))

pub returns-in-Sbi-clause-reads : goal.returns-in-Sbi-clause-reads
unfolding spelled gathered ones_below
returns-in-Sbi-clause-reads c = subst (ReadsAt c.scatter_two-in-Sbi.result) (sym c.in-Sbi.is)
    (reads_at (stands_from_mask _ _ (c.scatter_two-in-Sbi.ensures.others 4278190080 refl refl))
    (letter c.scatter_two-in-Sbi.ensures.x_own (letter c.scatter_two-in-Sbi.ensures.y_own tt)))

pub returns-in-Cbi-clause-reads : goal.returns-in-Cbi-clause-reads
unfolding spelled gathered ones_below
returns-in-Cbi-clause-reads c = subst (ReadsAt c.scatter_two-in-Cbi.result) (sym c.in-Cbi.is)
    (reads_at (stands_from_mask _ _ (c.scatter_two-in-Cbi.ensures.others 4278190080 refl refl))
    (letter c.scatter_two-in-Cbi.ensures.x_own (letter c.scatter_two-in-Cbi.ensures.y_own tt)))

pub returns-in-Bst-clause-reads : goal.returns-in-Bst-clause-reads
unfolding spelled gathered ones_below
returns-in-Bst-clause-reads c = subst (ReadsAt c.scatter_two-in-Bst.result) (sym c.in-Bst.is)
    (reads_at (stands_from_mask _ _ (c.scatter_two-in-Bst.ensures.others 4261937152 refl refl))
    (letter c.scatter_two-in-Bst.ensures.x_own (letter c.scatter_two-in-Bst.ensures.y_own tt)))

pub returns-in-Bld-clause-reads : goal.returns-in-Bld-clause-reads
unfolding spelled gathered ones_below
returns-in-Bld-clause-reads c = subst (ReadsAt c.scatter_two-in-Bld.result) (sym c.in-Bld.is)
    (reads_at (stands_from_mask _ _ (c.scatter_two-in-Bld.ensures.others 4261937152 refl refl))
    (letter c.scatter_two-in-Bld.ensures.x_own (letter c.scatter_two-in-Bld.ensures.y_own tt)))

pub returns-in-Break-clause-reads : goal.returns-in-Break-clause-reads
returns-in-Break-clause-reads c = subst (ReadsAt 2509766656) (sym c.in-Break.is)
    (record { fixed = stands_from_mask (pattern_of Break) 2509766656 (refl); letters = tt })

pub returns-in-Nop-clause-reads : goal.returns-in-Nop-clause-reads
returns-in-Nop-clause-reads c = subst (ReadsAt 0) (sym c.in-Nop.is)
    (record { fixed = stands_from_mask (pattern_of Nop) 0 (refl); letters = tt })

pub returns-in-Sleep-clause-reads : goal.returns-in-Sleep-clause-reads
returns-in-Sleep-clause-reads c = subst (ReadsAt 2508718080) (sym c.in-Sleep.is)
    (record { fixed = stands_from_mask (pattern_of Sleep) 2508718080 (refl); letters = tt })

pub returns-in-Wdr-clause-reads : goal.returns-in-Wdr-clause-reads
returns-in-Wdr-clause-reads c = subst (ReadsAt 2510815232) (sym c.in-Wdr.is)
    (record { fixed = stands_from_mask (pattern_of Wdr) 2510815232 (refl); letters = tt })
