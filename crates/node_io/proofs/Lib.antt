mod Keyboards
