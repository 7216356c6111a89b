-- The data addresses of the ATmega644's registers (data sheet, "AVR Memories" and "Register Summary"), as far as the
-- definitions speak of them, and the vector of its one interrupt. An I/O register's data address is its I/O address and 0x20.
use Rattle.std.specs.Prelude.{ℕ}

-- Below it R0 to R31 stand; it is the data address of I/O register 0
abbrev pub IO_BASE : ℕ
IO_BASE = 0x20

-- The ports. PINx is two below PORTx, DDRx between them
abbrev pub PINA : ℕ
PINA = 0x20

abbrev pub DDRA : ℕ
DDRA = 0x21

abbrev pub PORTA : ℕ
PORTA = 0x22

abbrev pub PINB : ℕ
PINB = 0x23

abbrev pub DDRB : ℕ
DDRB = 0x24

abbrev pub PORTB : ℕ
PORTB = 0x25

abbrev pub PINC : ℕ
PINC = 0x26

abbrev pub DDRC : ℕ
DDRC = 0x27

abbrev pub PORTC : ℕ
PORTC = 0x28

abbrev pub PIND : ℕ
PIND = 0x29

abbrev pub DDRD : ℕ
DDRD = 0x2A

abbrev pub PORTD : ℕ
PORTD = 0x2B

-- The core's own: the stack pointer and the status register
abbrev pub SPL : ℕ
SPL = 0x5D

abbrev pub SPH : ℕ
SPH = 0x5E

abbrev pub SREG : ℕ
SREG = 0x5F

-- Timer 1: flags, mask, controls, count and first compare register
abbrev pub TIFR1 : ℕ
TIFR1 = 0x36

abbrev pub TIMSK1 : ℕ
TIMSK1 = 0x6F

abbrev pub TCCR1A : ℕ
TCCR1A = 0x80

abbrev pub TCCR1B : ℕ
TCCR1B = 0x81

abbrev pub TCNT1L : ℕ
TCNT1L = 0x84

abbrev pub TCNT1H : ℕ
TCNT1H = 0x85

abbrev pub OCR1AL : ℕ
OCR1AL = 0x88

abbrev pub OCR1AH : ℕ
OCR1AH = 0x89

-- the sound's output: the first compare register of timer 2
abbrev pub OCR2A : ℕ
OCR2A = 0xB3

-- the RAM's last byte
abbrev pub RAM_END : ℕ
RAM_END = 0x10FF

-- the word address at which the interrupt TIMER1_COMPA is served (data sheet, "Interrupts")
abbrev pub TIMER1_COMPA : ℕ
TIMER1_COMPA = 0x1A
